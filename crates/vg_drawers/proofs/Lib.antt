pub mod ShapeLemmas
pub mod AlikeLemmas
pub mod HistoryLemmas
pub mod PaintLemmas
pub mod DrawnLemmas
