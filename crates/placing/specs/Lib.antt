pub mod Counted
pub mod Given
pub mod Reach
pub mod Searched
