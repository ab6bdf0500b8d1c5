pub mod Field
pub mod Filled
