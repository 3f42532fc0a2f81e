pub mod PartLemmas
pub mod NumberLaws
pub mod HexLaws
pub mod ListLaws
pub mod PlainLemmas
