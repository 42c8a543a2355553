pub mod Origins
pub mod Marks
pub mod Cases
pub mod Steps
pub mod Walks
