pub mod HeldLemmas
pub mod CopyLemmas
pub mod PlaceLemmas
pub mod WholeLemmas
