pub mod Queues
pub mod Kinds
pub mod Header
pub mod Rect
pub mod Entries
pub mod TwoD
pub mod Modes
