pub mod Rising
pub mod Linked
pub mod Consistent
