pub mod Scanout
pub mod Fits
pub mod Panels
pub mod FrameOf
pub mod Touched
