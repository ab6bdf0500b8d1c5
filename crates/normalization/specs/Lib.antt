pub mod Reduced
pub mod Normal
