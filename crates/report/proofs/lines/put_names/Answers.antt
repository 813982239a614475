-- `report::lines::put_names` meets its contract. Assumes nothing.
use mathlib.Core.Path.{sym, ◌∙◌}
use native.Mathlib.Omega.{arith}
use Rattle.report.proofs.NamesListed.{listed_none, listed_next, listed_same, listed_all}
use Rattle.report.proofs.lines.put_names.Goals as goal
use Rattle.report.proofs.lines.put_names.Goals.{then-has, else-has}

pub loop-column-init : goal.loop-column-init
loop-column-init c = listed_none

pub loop-column-preserved : goal.loop-column-preserved
loop-column-preserved c =
    let inv = c.loop-column.invariant in
    elim c.if-has.branch [
      | then-has w ↦
          rw (w.page-is, w.comma-is) (listed_next inv (sym c.has.ensures ∙ w.if-has.true) w.put.ensures w.put_name.ensures)
      | else-has w ↦ rw (w.page-is, w.comma-is) (listed_same inv (sym c.has.ensures ∙ w.if-has.false))
    ]

pub returns : goal.returns
returns c = listed_all c.loop-column.invariant (omega arith)
