pub mod Tight
pub mod Covered
pub mod Point
