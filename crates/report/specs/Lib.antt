-- What the contracts of report cite besides the rules.
pub mod Naming
pub mod Taken
pub mod Promises
