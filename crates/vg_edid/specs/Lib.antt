pub mod Edid
