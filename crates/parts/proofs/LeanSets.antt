-- Sets with a column too many: they gain as much without it, and so in the end does a part of them with none too many. Assumes nothing.
use mathlib.Core.Path.{◌≡◌, refl, ◌∙◌}
use mathlib.Core.Bool.{true, ◌&&◌}
use Prim.Native.Nat.{ℕ, zero, suc, ◌^◌, ◌<◌}
use native.Mathlib.Omega.{arith}
use lib.Dec.{eqb}
use borrow.Author.Tests.{eqb-true}
use Rattle.rules.specs.Sets.{has, contains, without}
use Rattle.rules.proofs.Lists.{and_parts}
use Rattle.rules.proofs.SetBits.{has_below}
use Rattle.rules.proofs.Sets.{contains_refl, contains_trans, contains_empty, without_below}
use Rattle.rules.proofs.Differences.{contains_without}
use Rattle.rules.proofs.SetColumns.{without_less}
use Rattle.parts.specs.Parts.{Inside, Leans, whole, spared, LeanPart}

-- a set that has a column and gains the same without it may be left out
pub column_spared : (gain : ℕ → ℕ) (s i : ℕ) → s < 2 ^ 16 → (has i s && eqb (gain (without s (2 ^ i))) (gain s)) ≡ true → Leans gain s 0
column_spared gain s i b e =
    let both = and_parts (has i s) (eqb (gain (without s (2 ^ i))) (gain s)) e in
    spared i (has_below 16 s i b both.0) both.0 (eqb-true (gain (without s (2 ^ i))) (gain s) both.1) refl

-- what the other table says is never more than the set gains
pub leans_part : (gain : ℕ → ℕ) (s gained : ℕ) → Leans gain s gained → contains (gain s) gained ≡ true
leans_part gain s gained (whole e) = rw e (contains_refl (gain s))
leans_part gain s gained (spared i l h same e) = rw e (contains_empty (gain s))

-- a set that gains nothing has nothing in the other table either
pub leans_nothing : (gain : ℕ → ℕ) (s gained : ℕ) → gain s ≡ 0 → Leans gain s gained → gained ≡ 0
leans_nothing gain s gained z (whole e) = e ∙ z
leans_nothing gain s gained z (spared i l h same e) = e

-- the set is a part of itself
pub inside_own : (s : ℕ) → s < 2 ^ 16 → Inside s s
inside_own s b = record { small = b; within = contains_refl s }

-- a part of what is left is a part of the set
pub inside_rest : (s t u : ℕ) → Inside (without s t) u → Inside s u
inside_rest s t u inside = record { small = inside.small; within = contains_trans s (without s t) u (contains_without s t) inside.within }

-- some part of the set has in the other table what the set gains
pub part_with_all : (gain lean : ℕ → ℕ) (count s : ℕ) → ((t : ℕ) → t < count → Leans gain t (lean t)) → s < count → s < 2 ^ 16
    → LeanPart gain lean s
part_with_all gain lean count s leans l b = up_to (suc s) s (omega arith) l b
  where
    up_to : (n s : ℕ) → s < n → s < count → s < 2 ^ 16 → LeanPart gain lean s
    up_to zero s m l b = absurd (omega arith)
    up_to (suc n) s m l b = go (leans s l) (up_to n)
      where
        go : Leans gain s (lean s) → ((t : ℕ) → t < n → t < count → t < 2 ^ 16 → LeanPart gain lean t) → LeanPart gain lean s
        go (whole e) before = record { part = s; inside = inside_own s b; same = e }
        go (spared i k h same e) before =
            let rest = without s (2 ^ i) in
            let less = without_less s i b k h in
            let found = before rest (omega arith) (omega arith) (without_below s (2 ^ i)) in
            record { part = found.part; inside = inside_rest s (2 ^ i) found.part found.inside; same = found.same ∙ same }
