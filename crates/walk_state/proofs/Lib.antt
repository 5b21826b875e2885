pub mod WalkFaults
pub mod WalkBindings
pub mod WalkPending
pub mod WalkRoom
pub mod WalkRows
pub mod TableRows
