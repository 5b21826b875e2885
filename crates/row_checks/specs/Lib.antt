pub mod Plain
pub mod Right
pub mod Parts
