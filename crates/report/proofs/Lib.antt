pub mod Marked
pub mod Counts
pub mod Files
pub mod Decoded
pub mod Example
