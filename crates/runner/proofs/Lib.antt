pub mod Turns
pub mod Forks
pub mod Rounding
