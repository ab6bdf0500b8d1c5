pub mod Model
pub mod Fields
pub mod Booleans
pub mod Numerators
pub mod Read
pub mod Encoded
