-- What the proofs of tables share: blocks of sets, tables of words and of bytes, forbidden sets, the conditions of a job, and columns in the other order.
pub mod Blocks
pub mod WordTables
pub mod ByteTables
pub mod Changed
pub mod Forbidden
pub mod JobConditions
pub mod JobTables
pub mod Mirrors
pub mod Mapped
pub mod MirroredMarks
pub mod MirroredNeeds
pub mod MirroredJobs
