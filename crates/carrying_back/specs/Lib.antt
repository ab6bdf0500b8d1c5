pub mod Numerators
pub mod Carry
