pub mod Features
pub mod Status
pub mod Config
