pub mod TaskLemmas
pub mod KeepLemmas
