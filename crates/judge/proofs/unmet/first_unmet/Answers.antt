-- `judge::unmet::first_unmet` meets its contract. Assumes nothing.
use mathlib.Core.Path.{◌≡◌, sym, ap, ◌∙◌}
use mathlib.Core.Bool.{not}
use Prim.Native.Nat.{◌<◌}
use native.Mathlib.Omega.{arith}
use lib.ListN.{length, get_or}
use Rattle.rules.specs.Needs.{column}
use Rattle.rules.specs.Splits.{met}
use Rattle.rules.proofs.Searches.{first_found, nothing_found}
use Rattle.judge.proofs.unmet.first_unmet.Goals as goal

pub returns-then-not-need_met : goal.returns-then-not-need_met
returns-then-not-need_met c =
    let l = c.loop-k in
    let split = c.args.split.now in
    λ rules n s.
    let here : l.k < length rules = omega arith in
    let unmet = ap not (sym (c.need_met.ensures (get_or rules l.k (column 0)) (s l.k here)) ∙ c.if-not-need_met.true) in
    sym (first_found (λ v. not (met split v)) (column 0) rules l.k here (l.invariant rules n s) unmet)

pub returns : goal.returns
returns c =
    let l = c.loop-k in
    let a = c.args in
    let last : l.k ≡ length a.rows.now = omega arith in
    λ rules n s. sym (nothing_found (λ v. not (met a.split.now v)) (column 0) rules (rw (n ∙ sym last) (l.invariant rules n s)))
