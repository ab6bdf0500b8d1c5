pub mod Read
pub mod OtherProofs
pub mod NotEmpty
