-- The laws that the proofs of report share, and what its promise says.
pub mod Filling
pub mod NamesListed
pub mod Printing
pub mod Answers
pub mod Promises
