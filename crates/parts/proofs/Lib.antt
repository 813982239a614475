-- The laws that the proofs of parts share.
pub mod GatheredParts
pub mod LeanSets
pub mod FilledTables
