pub mod Pixels
pub mod Formats
pub mod Shown
