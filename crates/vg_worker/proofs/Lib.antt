pub mod LaneLemmas
pub mod Sent
