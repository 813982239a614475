-- What the contracts of job cite besides the rules.
pub mod Refusals
pub mod Given
pub mod Findings
pub mod Records
pub mod Rows
