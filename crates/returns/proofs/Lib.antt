pub mod Enough
pub mod ByClass
pub mod Calls
pub mod Clauses
pub mod RowRule
pub mod SwitchRule
pub mod LastItem
