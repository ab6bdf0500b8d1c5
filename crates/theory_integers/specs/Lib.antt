pub mod Difference
pub mod Ring
pub mod Order
pub mod Product
pub mod Size
pub mod Natural
pub mod Quotient
