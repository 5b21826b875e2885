pub mod BoundTo
pub mod Referred
pub mod Falling
pub mod Places
pub mod Written
