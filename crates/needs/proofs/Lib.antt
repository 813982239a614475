-- What the proofs of needs share: the lanes of a column, and the operands of a need as words of lanes.
pub mod ColumnLanes
pub mod OperandWords
