pub mod Origin
pub mod Shown
