pub mod Kept
pub mod Tended
pub mod Making
