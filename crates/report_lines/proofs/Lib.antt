pub mod Decimals
pub mod Writing
pub mod Parts
pub mod SheetLines
