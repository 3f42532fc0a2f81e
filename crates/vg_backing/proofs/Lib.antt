pub mod BackingLemmas
pub mod FlagLemmas
pub mod HeldLemmas
pub mod LentLemmas
pub mod RunLemmas
