-- The laws that the proofs of diagram share.
pub mod Promises
pub mod Answers
pub mod Slices
pub mod Drawings
pub mod DrawnNodes
pub mod Sides
pub mod CountedPaths
pub mod ListedPaths
pub mod Listings
