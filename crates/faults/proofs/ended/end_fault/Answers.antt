-- `faults::ended::end_fault` meets its contract. Assumes nothing.
use native.Mathlib.Omega.{arith}
use Rattle.faults.proofs.Parts.{end_inside, end_same, end_other}
use Rattle.faults.proofs.ended.end_fault.Goals as goal

pub returns-then-text-places : goal.returns-then-text-places
returns-then-text-places c = λ sheet form at. absurd (omega (arith, end_inside form at, c.if-text-places.true))

pub returns-then-number-places : goal.returns-then-number-places
returns-then-number-places c = λ sheet form at. end_same form at (rw c.width.ensures at c.number.ensures) c.if-number-places.true

pub returns : goal.returns
returns c =
    λ sheet form at. rw c.width.ensures
    (end_other form at (rw c.width.ensures at c.number.ensures) c.if-number-places.false)
