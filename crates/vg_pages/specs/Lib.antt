pub mod Memory
pub mod BlocksWithin
pub mod Lending
