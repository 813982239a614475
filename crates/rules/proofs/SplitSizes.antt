-- How many columns extracts have: each at least one, and those of a correct split together at most as many as there are. Assumes nothing.
use mathlib.Core.Path.{◌≡◌, ◌∙◌}
use mathlib.Core.Logic.{◌⊎◌, inl, inr}
use mathlib.Core.Bool.{true, false}
use mathlib.Core.List.{List, [], ◌∷◌}
use Prim.Native.Nat.{ℕ, ◌+◌, ◌^◌, ◌≤◌, ◌<◌}
use native.Mathlib.Omega.{arith}
use lib.Pow.{pow_pos}
use Rattle.rules.specs.Lists.{every}
use Rattle.rules.specs.Sets.{has, apart, size, union}
use Rattle.rules.specs.Jobs.{Job, unlinked}
use Rattle.rules.specs.Splits.{proper, all_unlinked, correct, columns_in}
use Rattle.rules.proofs.Lists.{and_parts, or_none, every_in, every_all}
use Rattle.rules.proofs.SetBits.{below_most}
use Rattle.rules.proofs.Sets.{contains_empty, apart_column, has_apart, apart_empty, apart_sym, has_union, union_within}
use Rattle.rules.proofs.SetSizes.{size_some, size_empty, size_le, size_union_apart}
use Rattle.rules.proofs.SetColumns.{same_or_lacks}
use Rattle.rules.proofs.Jobs.{unlinked_means}
use Rattle.rules.proofs.Splits.{proper_means, correct_parts}

-- a set that is not 0 has a column
pub size_more : (s : ℕ) → 0 < s → s < 2 ^ 16 → 0 < size s
size_more s h b = go (same_or_lacks 16 s 0 (omega arith) b (omega arith) (contains_empty s))
  where
    go : (0 ≡ s) ⊎ ((i : ℕ) × (i < 16) × (has i s ≡ true) × (has i 0 ≡ false)) → 0 < size s
    go (inl e) = absurd (omega arith)
    go (inr t) = size_some s t.0 t.1 t.2

-- a set that shares no column with two shares none with their union
union_apart : (s t u : ℕ) → apart s u ≡ true → apart t u ≡ true → apart (union s t) u ≡ true
union_apart s t u a c =
    has_apart (union s t) u (λ i l h. has_union s t i l ∙ or_none (has i s) (has i t) (apart_column s u i l a h) (apart_column t u i l c h))

module _ (job : Job) (few : job.columns ≤ 16) where
  -- the columns of a set and of extracts that share none with it or with each other
  columns_with : (u : ℕ) (split : List ℕ) → u < 2 ^ job.columns → every (proper job) split ≡ true → every (apart u) split ≡ true
      → all_unlinked job split ≡ true → size u + columns_in split ≤ job.columns
  unfolding columns_in every all_unlinked
  columns_with u [] b right free links = omega (arith, size_le job.columns u few b)
  columns_with u (s ∷ split) b right free links =
      let rights = and_parts _ _ right in
      let frees = and_parts _ _ free in
      let linked = and_parts _ _ links in
      let c = (proper_means job s rights.0).1 in
      let e = size_union_apart u s (below_most job.columns u few b) (below_most job.columns s few c) frees.0 in
      let next = every_all (apart (union u s)) split (λ t m.
      union_apart u s t (every_in (apart u) frees.1 m) (unlinked_means job s t (every_in (unlinked job s) linked.0 m))) in
      let rest = columns_with (union u s) split (union_within job.columns u s few b c) rights.1 next linked.1 in
      omega arith

-- extracts of a correct split share no column, so together they have at most as many columns as there are
pub columns_few : (job : Job) (split : List ℕ) → job.columns ≤ 16 → correct job split ≡ true → columns_in split ≤ job.columns
columns_few job split few e =
    let parts = correct_parts job split e in
    let free = every_all (apart 0) split (λ s m. apart_sym 0 s ∙ apart_empty s) in
    let all = columns_with job few 0 split (pow_pos job.columns) parts.proper free parts.unlinked in
    omega (arith, size_empty)
