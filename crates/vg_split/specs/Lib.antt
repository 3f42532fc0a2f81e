pub mod Words
pub mod Rule
pub mod Tells
pub mod Plays
pub mod Places
