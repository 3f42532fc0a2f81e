pub mod Places
pub mod Filled
pub mod Tabulated
pub mod PixelLemmas
