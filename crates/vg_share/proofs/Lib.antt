pub mod RemoveLemmas
pub mod CellLemmas
pub mod ShareLemmas
pub mod HolderLemmas
