-- What the contracts of growing cite besides the rules.
pub mod Slices
pub mod Lent
pub mod Building
pub mod Buckets
pub mod Rebuilding
pub mod Growing
pub mod Parts
