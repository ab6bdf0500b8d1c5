pub mod Limits
pub mod Terms
pub mod Layout
pub mod Answers
