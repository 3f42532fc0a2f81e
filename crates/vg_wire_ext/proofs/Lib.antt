pub mod CommandLemmas
pub mod RequestLemmas
pub mod ResponseLemmas
pub mod NamedLemmas
