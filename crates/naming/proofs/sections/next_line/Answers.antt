-- `naming::sections::next_line` meets its contract. Assumes nothing.
use mathlib.Core.Path.{ap}
use Prim.Native.Nat.{ℕ, ◌+◌}
use native.Mathlib.Omega.{arith}
use Rattle.naming.proofs.Walks.{ends_words}
use Rattle.naming.proofs.KeyPlaces.{width_bounds, words_inside}
use Rattle.naming.proofs.sections.next_line.Goals as goal

pub returns-then-text-value-clause-is : goal.returns-then-text-value-clause-is
returns-then-text-value-clause-is c =
    let e = c.width.ensures in
    let bounds = width_bounds c.args.section in
    λ q names w. absurd (omega (arith, words_inside w, c.if-text-value.true))

pub returns-clause-is : goal.returns-clause-is
returns-clause-is c =
    let e = c.width.ensures in
    let bounds = width_bounds c.args.section in
    λ q names w. ap (λ (p : ℕ). p + 1) (ends_words w (rw e at c.line_end.ensures))
