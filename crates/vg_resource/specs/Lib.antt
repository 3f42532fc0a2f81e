pub mod Pixels
pub mod Resource
