pub mod RangeLemmas
pub mod RisingLemmas
pub mod CrossingLemmas
pub mod SessionLemmas
pub mod Sent
