pub mod HeaderLemmas
pub mod EntryLemmas
pub mod TwoDLemmas
pub mod ModesLemmas
pub mod SlotLemmas
