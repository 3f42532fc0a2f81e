pub mod Backing
pub mod Runs
pub mod Fits
