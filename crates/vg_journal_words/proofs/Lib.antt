pub mod LineFronts
pub mod PageLemmas
