-- Laws of a list written over the first places of another. Assumes nothing.
use mathlib.Core.Path.{◌≡◌, refl, ap}
use mathlib.Core.List.{List, [], ◌∷◌, ◌++◌}
use Prim.Native.Nat.{ℕ, zero, suc, ◌+◌, ◌≤◌, ◌<◌, min}
use native.Mathlib.Numerals.{add-one, unary_clauses}
use native.Mathlib.Omega.{arith}
use lib.ListN.{length, get_or, set, take, drop, replicate, get_or-replicate}
use Rattle.rules.specs.Lists.{written}

module _ {A : Type 0} where
  pub length_written : (new old : List A) → length (written new old) ≡ length old
  unfolding written
  length_written [] old = refl
  length_written (x ∷ new) [] = refl
  length_written (x ∷ new) (y ∷ old) = ap suc (length_written new old)

  one_more : (i : ℕ) (new old : List A) (d : A) → i < length new → i < length old
      → set (written (take i new) old) i (get_or new i d) ≡ written (take (suc i) new) old
  unfolding written
  one_more i [] old d h l = absurd (omega arith)
  one_more i (x ∷ new) [] d h l = absurd (omega arith)
  one_more zero (x ∷ new) (y ∷ old) d h l = refl
  one_more (suc i) (x ∷ new) (y ∷ old) d h l = ap (λ (s : List A). x ∷ s) (one_more i new old d (omega arith) (omega arith))

  pub written_more : (i : ℕ) (new old : List A) (d : A) → i < length new → i < length old
      → set (written (take i new) old) i (get_or new i d) ≡ written (take (i + 1) new) old
  written_more i new old d h l = rw add-one (one_more i new old d h l)

  -- one more after all of them
  pub written_last : (new old : List A) (x : A) → length new < length old → set (written new old) (length new) x ≡ written (new ++ (x ∷ [])) old
  unfolding written
  written_last [] [] x l = absurd (omega arith)
  written_last [] (y ∷ old) x l = refl
  written_last (z ∷ new) [] x l = absurd (omega arith)
  written_last (z ∷ new) (y ∷ old) x l = ap (λ (s : List A). z ∷ s) (written_last new old x (omega arith))

  -- what has no place is not written
  pub written_full : (i : ℕ) (new old : List A) → length old ≤ i → written (take i new) old ≡ written new old
  unfolding written
  written_full zero [] [] h = refl
  written_full zero (x ∷ new) [] h = refl
  written_full zero new (y ∷ old) h = absurd (omega arith)
  written_full (suc i) [] old h = refl
  written_full (suc i) (x ∷ new) [] h = refl
  written_full (suc i) (x ∷ new) (y ∷ old) h = ap (λ (s : List A). x ∷ s) (written_full i new old (omega arith))

  pub take_written : (new old : List A) → length new ≤ length old → take (length new) (written new old) ≡ new
  unfolding written
  take_written [] old h = refl
  take_written (x ∷ new) [] h = absurd (omega arith)
  take_written (x ∷ new) (y ∷ old) h = ap (λ (s : List A). x ∷ s) (take_written new old (omega arith))

  -- the places after it stay
  pub drop_written : (new old : List A) → drop (length new) (written new old) ≡ drop (length new) old
  unfolding written
  drop_written [] old = refl
  drop_written (x ∷ new) [] = refl
  drop_written (x ∷ new) (y ∷ old) = drop_written new old

  pub get_d_written : (new old : List A) (k : ℕ) (d : A) → k < length new → k < length old → get_or (written new old) k d ≡ get_or new k d
  unfolding written
  get_d_written [] old k d h l = absurd (omega arith)
  get_d_written (x ∷ new) [] k d h l = absurd (omega arith)
  get_d_written (x ∷ new) (y ∷ old) zero d h l = refl
  get_d_written (x ∷ new) (y ∷ old) (suc k) d h l = get_d_written new old k d (omega arith) (omega arith)

  -- over equal ones, which stand for nothing
  pub get_d_padded : (new : List A) (n k : ℕ) (d : A) → k < n → get_or (written new (replicate n d)) k d ≡ get_or new k d
  unfolding written
  get_d_padded [] n k d h = get_or-replicate n k d d h
  get_d_padded (x ∷ new) zero k d h = absurd (omega arith)
  get_d_padded (x ∷ new) (suc n) zero d h = refl
  get_d_padded (x ∷ new) (suc n) (suc k) d h = get_d_padded new n k d (omega arith)

  -- the first places of it are the new list's, the others the old one's
  pub written_parts : (new old : List A) → take (min (length old) (length new)) new ++ drop (min (length old) (length new)) old ≡ written new old
  unfolding written
  written_parts [] old = simp unary_clauses refl
  written_parts (x ∷ new) [] = simp unary_clauses refl
  written_parts (x ∷ new) (y ∷ old) = simp unary_clauses (ap (λ (s : List A). x ∷ s) (written_parts new old))

  -- a list that is another from a place on was written over the places before
  pub written_back : (count : ℕ) (old new : List A) → length new ≡ length old → drop count new ≡ drop count old
      → new ≡ written (take count new) old
  unfolding written
  written_back zero old new e same = same
  written_back (suc count) [] [] e same = refl
  written_back (suc count) [] (x ∷ new) e same = absurd (omega arith)
  written_back (suc count) (y ∷ old) [] e same = absurd (omega arith)
  written_back (suc count) (y ∷ old) (x ∷ new) e same = ap (λ (s : List A). x ∷ s) (written_back count old new (omega arith) same)

  -- a list and another behind it are written one after the other
  pub written_after : (first second old : List A) → length first ≤ length old
      → written (first ++ second) old ≡ first ++ written second (drop (length first) old)
  unfolding written
  written_after [] second old h = refl
  written_after (x ∷ first) second [] h = absurd (omega arith)
  written_after (x ∷ first) second (y ∷ old) h = ap (λ (l : List A). x ∷ l) (written_after first second old (omega arith))

  -- a list written over equal ones, and these over more of them, is the list written over those
  pub written_padded : (new : List A) (n m : ℕ) (d : A) → length new ≤ n → n ≤ m
      → written (written new (replicate n d)) (replicate m d) ≡ written new (replicate m d)
  unfolding written
  written_padded [] zero m d h l = refl
  written_padded [] (suc n) zero d h l = absurd (omega arith)
  written_padded [] (suc n) (suc m) d h l = ap (λ (t : List A). d ∷ t) (written_padded [] n m d (omega arith) (omega arith))
  written_padded (x ∷ new) zero m d h l = absurd (omega arith)
  written_padded (x ∷ new) (suc n) zero d h l = absurd (omega arith)
  written_padded (x ∷ new) (suc n) (suc m) d h l = ap (λ (t : List A). x ∷ t) (written_padded new n m d (omega arith) (omega arith))
