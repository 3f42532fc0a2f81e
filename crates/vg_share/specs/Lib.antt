pub mod Lists
pub mod Cells
pub mod Share
