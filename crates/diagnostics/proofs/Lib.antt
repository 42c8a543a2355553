pub mod Rendering
pub mod Diagnosing
