pub mod Lengths
pub mod Loops
pub mod Copying
pub mod Passing
pub mod Blocks
pub mod Sections
pub mod Errors
pub mod Creates
