mod WordLemmas
mod ImageLemmas
pub mod Frames
pub mod Seats
pub mod DriverSteps
pub mod DeviceSteps
pub mod RightSteps
pub mod NoteSteps
pub mod Told
pub mod ToldDevice
pub mod PlaceLemmas
pub mod LayLemmas
pub mod SendLemmas
pub mod TableLemmas
