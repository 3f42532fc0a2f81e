pub mod LeaveLemmas
pub mod ActLeaveLemmas
pub mod OutLemmas
pub mod LoanLemmas
pub mod DisplayLemmas
pub mod ReplayLemmas
pub mod Sent
pub mod PlugLemmas
