pub mod Queue
pub mod Known
pub mod Table
pub mod Fits
pub mod Tasks
pub mod Keeps
pub mod Plans
