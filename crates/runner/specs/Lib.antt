pub mod Given
pub mod Rounds
