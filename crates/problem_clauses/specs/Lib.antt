pub mod Passes
pub mod Walk
pub mod Literals
pub mod Zeros
pub mod Settled
pub mod Remaining
pub mod Readings
pub mod Splits
