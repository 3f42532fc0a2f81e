pub mod Lanes
pub mod Desks
pub mod Loans
pub mod Fronts
