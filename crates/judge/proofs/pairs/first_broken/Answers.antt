-- `judge::pairs::first_broken` meets its contract. Assumes nothing.
use mathlib.Core.Path.{◌≡◌}
use mathlib.Core.Bool.{true, false}
use Prim.Native.Nat.{ℕ}
use Rattle.std.proofs.Common.{rules}
use borrow.Author.Tests.{tests}
use Rattle.std.proofs.lemmas.Iterator.{IsFirst-from_position, YieldsList-from_slice}
use Rattle.rules.specs.Jobs.{breaks}
use Rattle.judge.proofs.Finding.{position_where}
use Rattle.judge.proofs.pairs.first_broken.Goals as goal

pub returns : goal.returns
returns c =
    let a = c.args in
    λ job.
    position_where 0 (breaks job a.extract) a.forbidden.now c.position.result
    (IsFirst-from_position _ _ _ (λ (x : ℕ). breaks job a.extract x ≡ true) (λ (x : ℕ). breaks job a.extract x ≡ false) c.position.ensures.ran
    (YieldsList-from_slice a.forbidden.now cc) (λ x q k. search (rules, tests)) (λ x q k. search (rules, tests)))
