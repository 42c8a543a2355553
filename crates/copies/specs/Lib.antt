pub mod Copies
pub mod Words
pub mod Functions
pub mod Returns
