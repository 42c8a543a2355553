pub mod Records
pub mod Tracked
pub mod Sections
pub mod Simulates
