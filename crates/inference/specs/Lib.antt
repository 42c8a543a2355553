pub mod Outcome
pub mod Whole
