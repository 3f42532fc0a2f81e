pub mod Args
pub mod Tables
pub mod Bodies
pub mod Rows
pub mod BegunWithin
pub mod Code
