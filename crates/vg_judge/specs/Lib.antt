pub mod Outline
pub mod Verdicts
pub mod Entries
pub mod EntriesWithin
pub mod FramesWithin
pub mod JudgingWithin
