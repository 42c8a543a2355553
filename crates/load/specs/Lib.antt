pub mod Draws
pub mod Parts
