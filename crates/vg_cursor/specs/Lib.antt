pub mod Cursor
pub mod Blended
pub mod SpanWithin
pub mod RowsWithin
pub mod Look
