pub mod Writing
pub mod Ending
