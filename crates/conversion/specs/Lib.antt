pub mod Writing
pub mod Row
pub mod Comparisons
pub mod Clauses
pub mod Written
pub mod Problem
