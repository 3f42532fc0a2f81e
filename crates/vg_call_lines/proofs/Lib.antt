pub mod Counts
pub mod NameSets
pub mod ArgLemmas
pub mod BegunLemmas
