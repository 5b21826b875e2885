pub mod First
pub mod Hash
pub mod Linked
