-- The proofs of the examples and the counts.
pub mod Twelve
pub mod Counts
