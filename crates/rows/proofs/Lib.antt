pub mod Coded
pub mod Numbers
pub mod Branches
pub mod Marks
