pub mod Blobs
pub mod Uuids
