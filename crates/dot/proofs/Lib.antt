pub mod Lengths
pub mod Listing
pub mod Nodes
pub mod Calling
