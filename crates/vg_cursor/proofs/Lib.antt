pub mod CursorLemmas
pub mod SpanLemmas
pub mod RowLemmas
pub mod RowsLemmas
pub mod BlendLemmas
pub mod LawLemmas
