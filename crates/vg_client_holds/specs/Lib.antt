pub mod Setup
pub mod Holds
pub mod Host
pub mod ForeignWithin
