pub mod NeedLemmas
pub mod Steps
pub mod Told
pub mod Sent
