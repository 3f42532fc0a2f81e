pub mod Right
pub mod Checked
pub mod TestsWithin
pub mod StepWithin
