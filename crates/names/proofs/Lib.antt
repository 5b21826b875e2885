pub mod Bytes
pub mod Parts
pub mod Passed
pub mod Turns
