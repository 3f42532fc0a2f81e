pub mod WordLemmas
pub mod SetLemmas
pub mod FrameLemmas
pub mod OverLemmas
pub mod MadeLemmas
