pub mod Left
pub mod Rest
