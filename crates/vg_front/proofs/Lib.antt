pub mod LaneLemmas
pub mod WaitLemmas
pub mod DeskLemmas
pub mod FrontLemmas
pub mod Sent
