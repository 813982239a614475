-- `parts::lean_gain` meets its contract. Assumes nothing.
use mathlib.Core.Path.{◌≡◌, refl}
use mathlib.Core.Bool.{true, ◌&&◌}
use Prim.Native.Nat.{ℕ, ◌^◌}
use native.Mathlib.Omega.{arith}
use lib.Dec.{eqb}
use Rattle.std.proofs.Common.{rules}
use Rattle.std.proofs.lemmas.Iterator.{YieldsList-from_range, cases_from_any}
use Rattle.rules.specs.Sets.{has, without}
use Rattle.parts.specs.Parts.{in_table}
use Rattle.parts.proofs.LeanSets.{column_spared}
use Rattle.parts.proofs.lean_gain.Goals as goal

pub returns-then-any : goal.returns-then-any
returns-then-any c =
    let gain : ℕ → ℕ = in_table c.args.gains.now in
    let s : ℕ = c.args.set.bits in
    let any = c.any in
    let tried = cases_from_any any.new.self _ any.result (λ i. (has i s && eqb (gain (without s (2 ^ i))) (gain s)) ≡ true)
    (λ i. Unit {0}) any.ensures.ran (YieldsList-from_range 0 16 16 refl refl) (λ i f called. search rules) (λ i f called. search rules) in
    let found = rw c.if-any.true at tried in
    column_spared gain s _ (omega arith) (found.2 0)
