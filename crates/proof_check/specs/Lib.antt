pub mod Few
pub mod Index
pub mod Added
pub mod Loaded
pub mod Checking
pub mod Called
