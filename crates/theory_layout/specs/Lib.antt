pub mod Offsets
pub mod Fields
pub mod Steps
pub mod Proofs
pub mod Readers
pub mod Models
pub mod WrittenModels
pub mod Determined
