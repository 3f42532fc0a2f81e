pub mod Cargo
pub mod Walked
pub mod Descriptors
pub mod Entries
pub mod Slots
pub mod Ends
pub mod DeviceEnds
