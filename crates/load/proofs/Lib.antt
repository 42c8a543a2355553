pub mod Drawing
pub mod Bounds
pub mod Putting
pub mod Sheets
pub mod Calling
