pub mod Kinds
pub mod Branches
pub mod Found
