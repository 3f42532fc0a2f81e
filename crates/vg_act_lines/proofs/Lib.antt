pub mod PartLaws
pub mod ActLaws
pub mod ReplyLaws
