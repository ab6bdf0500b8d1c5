pub mod Meaning
pub mod Range
pub mod Enough
pub mod NotBeyond
