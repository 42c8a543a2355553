pub mod Cost
pub mod Ranges
pub mod Builds
