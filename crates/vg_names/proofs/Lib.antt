pub mod NamesLemmas
pub mod CountLemmas
