-- What the contracts of judge cite besides the rules.
pub mod Answers
pub mod Promises
