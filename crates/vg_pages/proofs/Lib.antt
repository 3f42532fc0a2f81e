pub mod FreePages
pub mod Marked
pub mod Padded
pub mod Sent
pub mod Spliced
pub mod FlagLemmas
pub mod CountLemmas
