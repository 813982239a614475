-- `tables::words::low_lanes` meets its contract. Assumes nothing.
use Rattle.tables.proofs.Forbidden.{LowLanes}
use Rattle.tables.proofs.words.low_lanes.Given as goal

abbrev pub invariant-loop-column : goal.invariant-loop-column
invariant-loop-column l = LowLanes l.set.bits l.column l.lanes
