pub mod Inherited
pub mod Filled
