pub mod Sides
pub mod Pairs
pub mod Left
pub mod Round
pub mod Ahead
pub mod Rounds
