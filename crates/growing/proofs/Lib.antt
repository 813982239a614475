-- The laws that the proofs of growing share.
pub mod Slices
pub mod Buckets
pub mod Building
pub mod Rebuilding
pub mod Parts
pub mod Recursion
pub mod FromNothing
