pub mod ListLemmas
pub mod EntryLemmas
pub mod HistoryLemmas
pub mod LineLemmas
pub mod GrowthLemmas
pub mod JobLemmas
pub mod Sent
