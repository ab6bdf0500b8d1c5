pub mod Odd
pub mod Signed
pub mod Related
