pub mod Spending
pub mod Building
pub mod Ranges
pub mod Effect
pub mod Instruction
pub mod Terminal
