-- What the contracts of parts cite besides the rules.
pub mod Parts
