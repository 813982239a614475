-- Laws of needs: they stay true of more columns, and nothing is met by no column. Assumes nothing.
use mathlib.Core.Path.{◌≡◌, ap}
use mathlib.Core.Logic.{⊎_elim}
use mathlib.Core.Bool.{Bool, true, false, ◌&&◌}
use Prim.Native.Nat.{ℕ, ◌<◌, ◌^◌}
use native.Mathlib.Nat.{zero-div}
use Rattle.rules.specs.Sets.{contains}
use Rattle.rules.specs.Needs.{Need, column, both, either, meets}
use Rattle.rules.proofs.Lists.{and_parts, and_both, or_one, or_left, or_right, or_none}
use Rattle.rules.proofs.Sets.{contains_has}

pub meets_more : (v : Need) (s t : ℕ) → s < 2 ^ 16 → contains t s ≡ true → meets v s ≡ true → meets v t ≡ true
unfolding meets
meets_more (column i) s t h c m = contains_has t s i h c m
meets_more (both v w) s t h c m =
    let parts = and_parts (meets v s) (meets w s) m in
    and_both (meets v t) (meets w t) (meets_more v s t h c parts.0) (meets_more w s t h c parts.1)
meets_more (either v w) s t h c m =
    ⊎_elim (λ e. or_left (meets v t) (meets w t) (meets_more v s t h c e)) (λ e. or_right (meets v t) (meets w t) (meets_more w s t h c e))
    (or_one (meets v s) (meets w s) m)

pub meets_empty : (v : Need) → meets v 0 ≡ false
unfolding meets
meets_empty (column i) = rw zero-div
meets_empty (both v w) = ap (λ (b : Bool). b && meets w 0) (meets_empty v)
meets_empty (either v w) = or_none (meets v 0) (meets w 0) (meets_empty v) (meets_empty w)
