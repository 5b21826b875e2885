pub mod BlockLabels
pub mod EarlierLabel
pub mod ListClimb
pub mod BranchRows
pub mod BranchSteps
