pub mod Any
pub mod Sum
pub mod Failing
pub mod Added
pub mod Check
