pub mod Origin
pub mod Encoding
pub mod Decoding
pub mod Places
pub mod Lines
pub mod Fields
pub mod Held
