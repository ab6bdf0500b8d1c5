pub mod Ends
pub mod Leaves
pub mod Concluded
pub mod Left
