pub mod Alone
pub mod Clause
pub mod Kept
