pub mod DetailedTo
pub mod Held
