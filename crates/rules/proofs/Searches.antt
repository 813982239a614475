-- What a search place by place has found out: the first place of which a test holds, or that there is none; and two searches one after the other.
-- Assumes nothing.
use mathlib.Core.Path.{◌≡◌, refl, sym}
use mathlib.Core.Bool.{Bool, true, false}
use mathlib.Core.List.{List, [], ◌∷◌}
use Rattle.rules.proofs.Options.{Option, None, Some, option_or, none-ne-some}
use Prim.Native.Nat.{ℕ, zero, suc, ◌<◌}
use native.Mathlib.Omega.{arith}
use lib.ListN.{length, get_or}
use Rattle.rules.specs.Lists.{first_where}

module _ {A : Type 0} (p : A → Bool) (d : A) where
  -- the test fails at every place before i
  abbrev pub NoneBefore : List A → ℕ → Type 0
  NoneBefore xs i = (k : ℕ) → k < i → p (get_or xs k d) ≡ false

  pub none_later : (x : A) (xs : List A) (i : ℕ) → NoneBefore (x ∷ xs) (suc i) → NoneBefore xs i
  none_later x xs i before k h = before (suc k) (omega arith)

  pub first_found : (xs : List A) (i : ℕ) → i < length xs → NoneBefore xs i → p (get_or xs i d) ≡ true → first_where p xs ≡ Some i
  unfolding first_where
  first_found [] i h before e = absurd (omega arith)
  first_found (x ∷ xs) zero h before e = rw e
  first_found (x ∷ xs) (suc i) h before e =
      let here : p x ≡ false = before 0 (omega arith) in
      rw (here, first_found xs i (omega arith) (none_later x xs i before) e)

  pub nothing_found : (xs : List A) → NoneBefore xs (length xs) → first_where p xs ≡ None
  unfolding first_where
  nothing_found [] before = refl
  nothing_found (x ∷ xs) before =
      let here : p x ≡ false = before 0 (omega arith) in
      rw (here, nothing_found xs (none_later x xs (length xs) before))

  pub first_same : (q : A → Bool) → ((x : A) → p x ≡ q x) → (xs : List A) → first_where p xs ≡ first_where q xs
  unfolding first_where
  first_same q same [] = refl
  first_same q same (x ∷ xs) = rw (same x, first_same q same xs)

-- where one search and then another finds nothing neither does
pub else_none : {A : Type 0} (a b : Option A) → option_or a b ≡ None → (a ≡ None) × (b ≡ None)
else_none None b e = (refl, e)
else_none (Some a) b e = absurd (none-ne-some a (sym e))
