-- What the contracts of writing cite besides the rules.
pub mod Added
pub mod Puts
