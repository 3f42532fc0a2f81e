pub mod Features
pub mod PiecesWithin
pub mod Scans
pub mod ScansWithin
pub mod JournalsWithin
