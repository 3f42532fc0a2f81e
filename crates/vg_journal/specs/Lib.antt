pub mod Text
pub mod PrintingWithin
