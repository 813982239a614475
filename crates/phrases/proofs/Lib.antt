-- The laws that the proofs of phrases share.
pub mod Counts
pub mod Turns
pub mod Items
