pub mod CrewLemmas
pub mod AddLemmas
pub mod DeskLemmas
pub mod ShareLemmas
pub mod MeetLemmas
pub mod Crossings
