pub mod Words
pub mod Sets
pub mod Frames
pub mod Drawn
pub mod NewFramesWithin
