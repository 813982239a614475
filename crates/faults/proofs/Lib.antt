-- The laws that the proofs of faults share.
pub mod Refusing
pub mod Left
pub mod Yielding
pub mod Counted
pub mod Tested
pub mod Parts
