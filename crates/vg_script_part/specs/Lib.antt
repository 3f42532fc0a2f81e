pub mod Setup
pub mod Values
pub mod Follows
pub mod Performing
pub mod Numbers
