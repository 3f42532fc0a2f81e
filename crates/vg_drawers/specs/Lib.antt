pub mod Shape
pub mod Drawers
