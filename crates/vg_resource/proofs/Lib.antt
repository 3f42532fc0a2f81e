pub mod MappedLemmas
pub mod ResourceLemmas
