pub mod Canons
pub mod Filling
pub mod Labelling
pub mod Declaring
