pub mod AnyPairs
pub mod Deeper
pub mod Clauses
pub mod Going
pub mod Listing
