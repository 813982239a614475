-- What the proofs of form share, in the order in which it builds on each other.
pub mod Table
pub mod KeyLaws
pub mod Signs
pub mod Runs
pub mod RunKeys
pub mod Possible
pub mod Completions
pub mod Walks
pub mod Living
pub mod ReadKeys
pub mod ReadNames
pub mod ReadPhrases
pub mod ReadLines
pub mod ReadTexts
pub mod Places
pub mod Decided
pub mod Branches
