pub mod Strips
pub mod PlansWithin
