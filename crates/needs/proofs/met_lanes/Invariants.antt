-- `needs::met_lanes` meets its contract. The loop's invariant: where the row is a need, the operands so far have their words of lanes,
-- and the marks that are left lead from them to the need. Assumes nothing.
use Rattle.needs.proofs.OperandWords.{Read}
use Rattle.needs.proofs.met_lanes.Given as goal

abbrev pub invariant-loop-mark : goal.invariant-loop-mark
invariant-loop-mark l = Read l.block l.row l.mark-index l.operands l.count
