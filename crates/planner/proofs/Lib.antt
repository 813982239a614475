-- The laws that the proofs of planner share.
pub mod Promises
pub mod Gains
pub mod ServingSplits
pub mod BestSplits
pub mod Answers
