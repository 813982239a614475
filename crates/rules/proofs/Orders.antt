-- Laws of the order among splits: it is an order, and one of two always comes first. Assumes nothing.
use mathlib.Core.Path.{◌≡◌, refl, sym, ap₂, ◌∙◌}
use mathlib.Core.Bool.{Bool, true, false, cond, false≢true}
use mathlib.Core.List.{List, [], ◌∷◌}
use Prim.Native.Nat.{ℕ, ◌≤◌, ◌<◌}
use native.Mathlib.Decide.{dec_lt}
use native.Mathlib.Omega.{arith}
use lib.Dec.{eqb, ltb}
use borrow.Author.Tests.{eqb-true, eqb-false, eq-eqb, ne_eqb, ltb-true, ltb-false, lt-ltb}
use Rattle.rules.specs.Plans.{not_after}

-- what the test says of two lists that begin with x and y
pub data Ahead (x y : ℕ) (rest : Bool) : Type 0 where
  smaller : x < y → Ahead x y rest
  same : x ≡ y → rest ≡ true → Ahead x y rest

pub ahead : (x y : ℕ) (xs ys : List ℕ) → not_after (x ∷ xs) (y ∷ ys) ≡ true → Ahead x y (not_after xs ys)
unfolding not_after
ahead x y xs ys e = go (eqb x y) refl e
  where
    go : (b : Bool) → eqb x y ≡ b → cond b (not_after xs ys) (ltb x y) ≡ true → Ahead x y (not_after xs ys)
    go true q h = same (eqb-true x y q) h
    go false q h = smaller (ltb-true x y h)

pub ahead_smaller : (x y : ℕ) (xs ys : List ℕ) → x < y → not_after (x ∷ xs) (y ∷ ys) ≡ true
unfolding not_after
ahead_smaller x y xs ys h = rw (ne_eqb x y (λ e. omega arith)) (lt-ltb x y h)

pub ahead_same : (x y : ℕ) (xs ys : List ℕ) → x ≡ y → not_after xs ys ≡ true → not_after (x ∷ xs) (y ∷ ys) ≡ true
unfolding not_after
ahead_same x y xs ys e h = rw (eq-eqb x y e) h

-- a number before a list that is no greater keeps it from coming later
pub ahead_no_greater : (x y : ℕ) (xs ys : List ℕ) → x ≤ y → not_after xs ys ≡ true → not_after (x ∷ xs) (y ∷ ys) ≡ true
ahead_no_greater x y xs ys l e = go (dec_lt x y)
  where
    go : Dec (x < y) → not_after (x ∷ xs) (y ∷ ys) ≡ true
    go (yes h) = ahead_smaller x y xs ys h
    go (no h) = ahead_same x y xs ys (omega arith) e

pub not_after_refl : (xs : List ℕ) → not_after xs xs ≡ true
unfolding not_after
not_after_refl [] = refl
not_after_refl (x ∷ xs) = ahead_same x x xs xs refl (not_after_refl xs)

pub not_after_antisym : (xs ys : List ℕ) → not_after xs ys ≡ true → not_after ys xs ≡ true → xs ≡ ys
unfolding not_after
not_after_antisym [] [] p q = refl
not_after_antisym [] (y ∷ ys) p q = absurd (false≢true q)
not_after_antisym (x ∷ xs) [] p q = absurd (false≢true p)
not_after_antisym (x ∷ xs) (y ∷ ys) p q = go (ahead x y xs ys p) (ahead y x ys xs q) (not_after_antisym xs ys)
  where
    go : Ahead x y (not_after xs ys) → Ahead y x (not_after ys xs) → (not_after xs ys ≡ true → not_after ys xs ≡ true → xs ≡ ys)
        → x ∷ xs ≡ y ∷ ys
    go (smaller h) (smaller k) f = absurd (omega arith)
    go (smaller h) (same e k) f = absurd (omega arith)
    go (same e h) (smaller k) f = absurd (omega arith)
    go (same e h) (same d k) f = ap₂ {C = List ℕ} (λ a rest. a ∷ rest) e (f h k)

pub not_after_trans : (xs ys zs : List ℕ) → not_after xs ys ≡ true → not_after ys zs ≡ true → not_after xs zs ≡ true
unfolding not_after
not_after_trans [] ys zs p q = refl
not_after_trans (x ∷ xs) [] zs p q = absurd (false≢true p)
not_after_trans (x ∷ xs) (y ∷ ys) [] p q = absurd (false≢true q)
not_after_trans (x ∷ xs) (y ∷ ys) (z ∷ zs) p q = go (ahead x y xs ys p) (ahead y z ys zs q) (not_after_trans xs ys zs)
  where
    go : Ahead x y (not_after xs ys) → Ahead y z (not_after ys zs) → (not_after xs ys ≡ true → not_after ys zs ≡ true → not_after xs zs ≡ true)
        → not_after (x ∷ xs) (z ∷ zs) ≡ true
    go (smaller h) (smaller k) f = ahead_smaller x z xs zs (omega arith)
    go (smaller h) (same e k) f = ahead_smaller x z xs zs (omega arith)
    go (same e h) (smaller k) f = ahead_smaller x z xs zs (omega arith)
    go (same e h) (same d k) f = ahead_same x z xs zs (e ∙ d) (f h k)

pub not_after_other : (xs ys : List ℕ) → not_after xs ys ≡ false → not_after ys xs ≡ true
unfolding not_after
not_after_other [] ys e = absurd (false≢true (sym e))
not_after_other (x ∷ xs) [] e = refl
not_after_other (x ∷ xs) (y ∷ ys) e = go (eqb x y) refl e (not_after_other xs ys)
  where
    go : (b : Bool) → eqb x y ≡ b → cond b (not_after xs ys) (ltb x y) ≡ false → (not_after xs ys ≡ false → not_after ys xs ≡ true)
        → not_after (y ∷ ys) (x ∷ xs) ≡ true
    go true q h f = ahead_same y x ys xs (sym (eqb-true x y q)) (f h)
    go false q h f =
        let l : y ≤ x = ltb-false x y h in
        let n : x ≡ y → ⊥ = eqb-false x y q in
        ahead_smaller y x ys xs (omega arith)
