-- What the proofs of judge share, and what is proved of its promise.
pub mod Judging
pub mod Promises
pub mod Finding
