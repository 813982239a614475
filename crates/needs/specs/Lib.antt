-- What the contracts of needs cite besides the rules.
pub mod Lanes
