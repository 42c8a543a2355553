pub mod Judging
pub mod Operands
pub mod Parts
pub mod TotalsSays
pub mod Whole
pub mod Says
