-- What the contracts of tables cite besides the rules.
pub mod Tables
pub mod Mirrored
