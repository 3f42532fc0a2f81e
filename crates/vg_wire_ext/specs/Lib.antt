pub mod Fields
pub mod Commands
pub mod Request
pub mod Response
pub mod Named
pub mod NamedWithin
