pub mod Elements
pub mod Halves
pub mod Joined
pub mod Merging
