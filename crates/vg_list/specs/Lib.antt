pub mod Seq
pub mod Front
