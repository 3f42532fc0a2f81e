pub mod Fences
pub mod Lists
pub mod Jobs
pub mod Begins
pub mod Entries
pub mod History
pub mod Lines
pub mod Growth
