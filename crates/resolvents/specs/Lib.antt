pub mod Resolvent
pub mod Resolved
