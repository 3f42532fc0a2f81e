pub mod KeptLemmas
pub mod TendedLemmas
pub mod MadeLemmas
pub mod Sent
