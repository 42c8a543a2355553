pub mod Serving
pub mod ServingFor
pub mod Replies
