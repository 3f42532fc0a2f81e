pub mod Space
pub mod Descriptor
pub mod Memory
pub mod Fault
pub mod Walk
pub mod TourWithin
pub mod Made
pub mod Asks
