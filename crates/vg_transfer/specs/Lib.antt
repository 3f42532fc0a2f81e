pub mod Backings
pub mod Pixels
