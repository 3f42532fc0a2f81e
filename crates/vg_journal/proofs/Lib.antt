pub mod LineLemmas
pub mod PrintingLemmas
pub mod JournalLemmas
pub mod PieceLemmas
