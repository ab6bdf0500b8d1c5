pub mod Reached
pub mod Words
pub mod Growth
pub mod Narrow
pub mod Backwards
