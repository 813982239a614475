-- What the contracts of planner cite besides the rules.
pub mod Promises
