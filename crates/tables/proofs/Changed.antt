-- A list changed place by place, as a loop does it. Assumes nothing.
use mathlib.Core.Path.{◌≡◌, refl, ap}
use mathlib.Core.List.{List, [], ◌∷◌, map}
use Prim.Native.Nat.{ℕ, zero, suc, ◌+◌, ◌<◌}
use native.Mathlib.Numerals.{add-one}
use native.Mathlib.Omega.{arith}
use lib.ListN.{length, get_or, set}

module _ (f : ℕ → ℕ) where
  -- the first so many places are changed
  abbrev pub changed : ℕ → List ℕ → List ℕ
  changed zero xs = xs
  changed (suc i) [] = []
  changed (suc i) (x ∷ xs) = f x ∷ changed i xs

  changed_next : (i : ℕ) (xs : List ℕ) → i < length xs → set (changed i xs) i (f (get_or (changed i xs) i 0)) ≡ changed (suc i) xs
  changed_next i [] h = absurd (omega arith)
  changed_next zero (x ∷ xs) h = refl
  changed_next (suc i) (x ∷ xs) h = ap (λ (l : List ℕ). f x ∷ l) (changed_next i xs (omega arith))

  pub changed_more : (i : ℕ) (xs : List ℕ) → i < length xs → set (changed i xs) i (f (get_or (changed i xs) i 0)) ≡ changed (i + 1) xs
  changed_more i xs h = rw add-one (changed_next i xs h)

  pub changed_all : (xs : List ℕ) → changed (length xs) xs ≡ map f xs
  changed_all [] = refl
  changed_all (x ∷ xs) = ap (λ (l : List ℕ). f x ∷ l) (changed_all xs)
