pub mod Ink
pub mod Paint
pub mod Inks
pub mod Clients
pub mod Painted
