-- What the proofs of job share.
pub mod Findings
pub mod Loading
pub mod Records
pub mod LaidRows
pub mod RowNeeds
pub mod Known
