pub mod Header
pub mod Read
