pub mod Text
pub mod Origins
pub mod TracingWithin
