-- `judge::unmet::need_met` meets its contract. Assumes nothing.
use mathlib.Core.Path.{◌≡◌}
use mathlib.Core.Bool.{true, false}
use Prim.Native.Nat.{ℕ}
use borrow.Author.Tests.{tests}
use Rattle.std.proofs.Common.{rules}
use Rattle.std.proofs.lemmas.Iterator.{cases_from_any, YieldsList-from_slice}
use Rattle.rules.specs.Needs.{meets}
use Rattle.judge.proofs.Finding.{any_met}
use Rattle.judge.proofs.unmet.need_met.Goals as goal

pub returns : goal.returns
returns c =
    let split = c.args.split.now in
    λ v e.
    any_met v split c.any.result
    (cases_from_any _ _ _ (λ (s : ℕ). meets v s ≡ true) (λ (s : ℕ). meets v s ≡ false) c.any.ensures.ran
    (YieldsList-from_slice split cc) (λ x q k. search (rules, tests)) (λ x q k. search (rules, tests)))
