pub mod Numbers
pub mod Says
pub mod Words
pub mod Parts
pub mod Table
pub mod Refusals
pub mod Mutations
