pub mod StripLemmas
pub mod Sent
mod PutLemmas
