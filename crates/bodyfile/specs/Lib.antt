pub mod File
pub mod Limits
