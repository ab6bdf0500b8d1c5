pub mod Tests
pub mod All
pub mod Places
pub mod Dropped
pub mod Equal
pub mod Tabulated
pub mod Scan
pub mod Distinct
