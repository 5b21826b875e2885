pub mod Items
pub mod PartsFit
pub mod RightRows
pub mod RowWords
