pub mod CallRows
pub mod NamelessRows
