-- `tables::words::low_lanes` meets its contract. Assumes nothing.
use mathlib.Core.Path.{sym, ◌∙◌}
use native.Mathlib.Omega.{arith}
use Rattle.tables.proofs.Forbidden.{low_none, low_more, low_same}
use Rattle.tables.proofs.words.low_lanes.Goals.{then-has, else-has}
use Rattle.tables.proofs.words.low_lanes.Goals as goal

pub loop-column-init : goal.loop-column-init
loop-column-init c = low_none c.args.set.bits

pub loop-column-preserved : goal.loop-column-preserved
loop-column-preserved c =
    let bits = c.args.set.bits in
    let l = c.loop-column in
    let test = sym c.has.ensures in
    elim c.if-has.branch [
      | then-has w ↦ rw w.lanes-is (low_more bits l.column l.lanes w.column_lanes-lanes.result (omega arith) l.invariant
          (test ∙ w.if-has.true) w.column_lanes-lanes.ensures)
      | else-has w ↦ rw w.lanes-is (low_same bits l.column l.lanes l.invariant (test ∙ w.if-has.false))
    ]
