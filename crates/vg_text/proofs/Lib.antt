pub mod DigitLemmas
pub mod NumberedLemmas
pub mod PackingLemmas
pub mod LogLemmas
