pub mod Branches
pub mod Counting
pub mod Ending
pub mod Reaching
pub mod Labelled
