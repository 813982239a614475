-- `parts::possible_within` meets its contract. Assumes nothing.
use Rattle.parts.specs.Parts.{in_table}
use Rattle.parts.proofs.GatheredParts.{gathers_none, gathers_more}
use Rattle.parts.proofs.possible_within.Goals as goal

pub loop-column-init : goal.loop-column-init
loop-column-init c =
    let a = c.args in
    gathers_none (in_table a.gains.now) (in_table a.possible.now) a.set.bits

pub loop-column-preserved : goal.loop-column-preserved
loop-column-preserved c =
    let a = c.args in
    let l = c.loop-column in
    rw c.without_column.ensures (gathers_more (in_table a.gains.now) (in_table a.possible.now) a.set.bits l.column l.all l.invariant)
