-- What the contracts of naming cite besides the rules.
pub mod Words
pub mod Sections
