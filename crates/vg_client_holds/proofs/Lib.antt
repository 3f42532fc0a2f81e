pub mod DeniedLemmas
pub mod ForeignLemmas
pub mod FeatureLemmas
pub mod GrowingLemmas
pub mod SetupLemmas
