pub mod Below
pub mod Arithmetic
pub mod Reduced
pub mod Tightest
pub mod Value
pub mod Meets
