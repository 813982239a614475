-- What the contracts of faults cite besides the rules.
pub mod Refused
pub mod Kinds
pub mod Walks
