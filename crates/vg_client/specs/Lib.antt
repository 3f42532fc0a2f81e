pub mod Own
pub mod Accounts
pub mod Given
pub mod Outcomes
pub mod Calls
pub mod Callers
pub mod Steps
pub mod Numbers
