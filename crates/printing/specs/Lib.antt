pub mod Appended
pub mod Decimals
pub mod Room
pub mod Texts
