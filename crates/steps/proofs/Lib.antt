pub mod Choices
pub mod Total
pub mod Turns
pub mod Leads
pub mod Arms
pub mod AllRows
pub mod Reading
