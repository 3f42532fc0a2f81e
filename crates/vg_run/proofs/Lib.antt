pub mod EndLemmas
pub mod SaidLemmas
pub mod TextLemmas
pub mod WordLemmas
pub mod SumLemmas
pub mod UpgradeLemmas
