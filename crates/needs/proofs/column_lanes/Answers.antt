-- `needs::column_lanes` meets its contract. Assumes nothing.
use mathlib.Core.Path.{sym, ◌∙◌}
use native.Mathlib.Omega.{arith}
use Rattle.needs.proofs.ColumnLanes.{low_lanes, all_lanes, no_lanes}
use Rattle.needs.proofs.column_lanes.Goals as goal

pub returns-then-column-lt6 : goal.returns-then-column-lt6
returns-then-column-lt6 c = low_lanes c.args.column c.args.block c.if-column-lt6.true

pub returns-then-has : goal.returns-then-has
returns-then-has c =
    let a = c.args in
    all_lanes a.column a.block (omega arith) (sym c.has.ensures ∙ c.if-has.true)

pub returns-else-has : goal.returns-else-has
returns-else-has c =
    let a = c.args in
    no_lanes a.column a.block (omega arith) (sym c.has.ensures ∙ c.if-has.false)
