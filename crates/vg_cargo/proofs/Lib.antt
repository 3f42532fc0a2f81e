mod GatherLemmas
pub mod Counts
pub mod Slots
pub mod Heads
pub mod Sent
