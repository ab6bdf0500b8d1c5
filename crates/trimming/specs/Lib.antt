pub mod Marks
pub mod Numbers
pub mod Parents
pub mod Needed
pub mod Kept
pub mod Trimmed
