pub mod OrderLemmas
pub mod LegalLemmas
pub mod LawLemmas
pub mod KeptLemmas
pub mod WaitLemmas
pub mod DriveLemmas
