pub mod Requests
pub mod Asks
pub mod Tickets
pub mod Halves
pub mod OffersWithin
