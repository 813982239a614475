-- What the contracts of text cite besides the rules.
pub mod Tables
pub mod Built
pub mod Promises
