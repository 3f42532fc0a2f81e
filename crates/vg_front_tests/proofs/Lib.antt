pub mod TokenLemmas
pub mod HeldLemmas
