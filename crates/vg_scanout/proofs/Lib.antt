pub mod EmptyLemmas
pub mod ScreenLemmas
pub mod PanelLemmas
pub mod SnapLemmas
pub mod LawLemmas
pub mod TakenLemmas
pub mod TouchLemmas
pub mod RowLemmas
