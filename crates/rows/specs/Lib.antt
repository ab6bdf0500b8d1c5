pub mod Products
pub mod Row
