pub mod Wrote
pub mod Outcome
