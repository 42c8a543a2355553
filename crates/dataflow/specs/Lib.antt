pub mod Cost
pub mod Ranges
pub mod Accepted
pub mod Whole
pub mod Function
pub mod Read
pub mod ReadFunction
pub mod Places
