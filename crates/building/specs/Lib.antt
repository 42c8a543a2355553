pub mod Logs
pub mod Held
pub mod Phis
pub mod Built
