pub mod Names
pub mod Contexts
