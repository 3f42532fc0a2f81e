pub mod Shapes
pub mod Words
pub mod Ranges
pub mod Read
