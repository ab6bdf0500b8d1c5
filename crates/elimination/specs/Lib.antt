pub mod LoadedParts
pub mod Loading
pub mod Added
pub mod Eliminated
