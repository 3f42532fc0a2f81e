pub mod SetupLemmas
pub mod PlaceLemmas
pub mod SlotLemmas
pub mod ToldLemmas
pub mod LineLemmas
pub mod NumberLemmas
