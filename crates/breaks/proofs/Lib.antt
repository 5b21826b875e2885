pub mod Ranges
pub mod Leaving
pub mod Referring
pub mod ByWords
pub mod Search
