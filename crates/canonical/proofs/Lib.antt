pub mod Firsts
pub mod Hashing
pub mod Chain
pub mod Numbering
pub mod Zeros
