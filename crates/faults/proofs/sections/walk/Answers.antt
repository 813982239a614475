-- `faults::sections::walk` meets its contract. Assumes nothing.
use mathlib.Core.Path.{ap, ◌∙◌}
use native.Mathlib.Omega.{arith}
use lib.ListN.{length}
use Rattle.faults.proofs.Left.{row_next, row_end, asked_some, asked_none}
use Rattle.faults.proofs.sections.walk.Goals as goal

pub loop-lines-preserved : goal.loop-lines-preserved
loop-lines-preserved c =
    let l = c.loop-lines in
    let step = (asked_some c.next.result c.loop-lines-test.ensures c.next.ensures.steps).1 in
    record {
      text = step.text ∙ l.invariant.text;
      few = (omega (arith, l.invariant.few, step.later), omega (arith, l.invariant.few, step.inside, ap length l.invariant.text));
      left = λ q rows r. row_next (l.invariant.left q rows r) step (λ to names later w e. omega (arith, e));
    }

pub returns-clause-is : goal.returns-clause-is
returns-clause-is c =
    let none = asked_none c.next.result c.loop-lines-test.ensures c.next.ensures.steps in
    λ q rows r. let end = row_end (c.loop-lines.invariant.left q rows r) none in
    record { lines = omega (arith, end.1); to = ap (λ w. w.place) none.1 ∙ end.0 }
