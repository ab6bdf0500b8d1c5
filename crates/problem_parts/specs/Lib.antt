pub mod Constraint
pub mod Skip
pub mod Parts
pub mod Part
