pub mod Clauses
pub mod Over
pub mod Parsed
pub mod ScanOf
pub mod Readable
pub mod Occurring
