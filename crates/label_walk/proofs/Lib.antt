pub mod RowWords
pub mod ListRows
pub mod CurrentLabel
pub mod ContextRows
pub mod TableSteps
pub mod WalkSteps
pub mod PlainRows
pub mod RowSteps
