-- What the contracts of phrases cite besides the rules.
pub mod Readers
