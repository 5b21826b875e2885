pub mod LeftRows
pub mod LeftTurns
pub mod UnusedNames
pub mod UnusedRanks
pub mod UnusedRows
