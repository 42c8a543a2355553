pub mod Layout
pub mod Rows
pub mod Sort
pub mod Graph
pub mod Numbers
pub mod Pending
pub mod Tracked
