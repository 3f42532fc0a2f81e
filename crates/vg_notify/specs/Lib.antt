pub mod Need
pub mod Rule
pub mod Plays
pub mod Halves
