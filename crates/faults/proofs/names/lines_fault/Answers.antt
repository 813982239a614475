-- `faults::names::lines_fault` meets its contract. Assumes nothing.
use mathlib.Core.Path.{sym, ◌∙◌}
use Rattle.rules.specs.Texts.{line}
use Rattle.faults.specs.Kinds.{fault_by}
use Rattle.faults.proofs.Left.{row_here, row_next, row_end}
use Rattle.faults.proofs.Refusing.{passed_on}
use Rattle.faults.proofs.Tested.{line_faulty, line_right, no_line_faulty}
use Rattle.faults.proofs.names.lines_fault.Goals as goal

pub returns-in_err-line_fault : goal.returns-in_err-line_fault
returns-in_err-line_fault c =
    let a = c.args in
    let step = c.in-Some.ensures.steps in
    λ q to columns rows k few r.
    let h = row_here (c.loop-place.invariant.left q to columns rows k few r) step in
    passed_on c.from_residual.result _ c.from_residual.ensures.1
    (line_faulty (fault_by a.section columns) (line c.in-Some.place h.1) h.2
    (c.in_err-line_fault.ensures q h.0 columns h.1 k few (rw c.width-before.ensures h.3))
    ∙ sym h.4)

pub loop-place-preserved : goal.loop-place-preserved
loop-place-preserved c =
    let a = c.args in
    let step = c.in-Some.ensures.steps in
    record {
      goes = tt;
      ends = tt;
      text = step.text ∙ c.loop-place.invariant.text;
      left = λ q to columns rows k few r.
          row_next (c.loop-place.invariant.left q to columns rows k few r) step
          (λ end names later w e.
          e ∙ line_right (fault_by a.section columns) (line c.in-Some.place names) later
          (c.in_ok-line_fault.ensures q end columns names k few (rw c.width-before.ensures w)));
    }

pub returns : goal.returns
returns c =
    λ q to columns rows k few r.
    sym ((row_end (c.loop-place.invariant.left q to columns rows k few r) c.in-None.ensures.steps).1 ∙ no_line_faulty (fault_by c.args.section columns))
