pub mod Order
pub mod Line
pub mod Forms
pub mod Scan
pub mod Ready
