pub mod Facts
pub mod Seconds
pub mod Whole
pub mod Taken
