-- `faults::ended::number` meets its contract. Assumes nothing.
use native.Mathlib.Omega.{arith}
use Rattle.faults.proofs.Parts.{number_inside}
use Rattle.faults.proofs.ended.number.Goals as goal

pub returns-then-text-at : goal.returns-then-text-at
returns-then-text-at c = λ q n k e. absurd (omega (arith, number_inside k, c.if-text-at.true))
