pub mod Stated
pub mod Derived
pub mod Made
pub mod Resolvents
pub mod Named
