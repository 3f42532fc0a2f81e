pub mod Text
pub mod Packing
