pub mod Checking
pub mod Outlining
