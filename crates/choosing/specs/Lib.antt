pub mod Counts
pub mod Choice
