-- Laws of counting in lists: distinct things are no more than the list they go into has. Assumes nothing.
use mathlib.Core.Path.{◌≡◌, refl, sym, ap, ◌∙◌}
use mathlib.Core.Logic.{◌⊎◌, inl, inr}
use mathlib.Core.Bool.{Bool, true, false, not, cond, ◌&&◌}
use mathlib.Core.List.{List, [], ◌∷◌, ◌++◌, map}
use mathlib.Core.List.Memᴰ
use mathlib.Core.List.{Memᴰ}
use Prim.Native.Nat.{ℕ, zero, suc, ◌+◌, ◌*◌, ◌≤◌, ◌<◌, zero-le}
use native.Mathlib.Nat.{add-zero, suc-mul, zero-mul}
use native.Mathlib.Omega.{arith}
use lib.ListN.{length, get_or, length-append, length-map}
use Rattle.rules.specs.Lists.{keep, up_from}
use Rattle.rules.specs.Diagrams.{leaf}
use Rattle.rules.proofs.Lists.{in_keep, in_up_from}

module _ {A : Type 0} where
  -- no thing stands twice in the list
  pub data Distinct : List A → Type 0 where
    alone : Distinct []
    fresh : {x : A} {xs : List A} → (Memᴰ x xs → ⊥) → Distinct xs → Distinct (x ∷ xs)

  pub keep_distinct : (p : A → Bool) {xs : List A} → Distinct xs → Distinct (keep p xs)
  unfolding keep
  keep_distinct p alone = alone
  keep_distinct p (fresh {x = x} {xs = xs} n d) = go (p x) (keep_distinct p d)
    where
      go : (b : Bool) → Distinct (keep p xs) → Distinct (cond b (x ∷ keep p xs) (keep p xs))
      go true r = fresh (λ m. n (in_keep p x xs m).0) r
      go false r = r

  -- the list with one place of a thing taken out
  record TakenOut (y : A) (ys : List A) : Type 0 where
    rest : List A
    shorter : length ys ≡ suc (length rest)
    others : (z : A) → Memᴰ z ys → (z ≡ y → ⊥) → Memᴰ z rest

  taken_out : {y : A} {ys : List A} → Memᴰ y ys → TakenOut y ys
  taken_out {y} (Memᴰ.head {x = x} {xs = xs} e) = record { rest = xs; shorter = refl; others = λ z m n. go z n (Memᴰ.cases_cons m) }
    where
      go : (z : A) → (z ≡ y → ⊥) → (z ≡ x) ⊎ Memᴰ z xs → Memᴰ z xs
      go z n (inl q) = absurd (n (q ∙ sym e))
      go z n (inr m) = m
  taken_out {y} (Memᴰ.tail {x = x} {xs = xs} m) =
      let w = taken_out m in
      record { rest = x ∷ w.rest; shorter = ap suc w.shorter; others = λ z i n. go w z n (Memᴰ.cases_cons i) }
    where
      go : (w : TakenOut y xs) (z : A) → (z ≡ y → ⊥) → (z ≡ x) ⊎ Memᴰ z xs → Memᴰ z (x ∷ w.rest)
      go w z n (inl q) = Memᴰ.head q
      go w z n (inr i) = Memᴰ.tail (w.others z i n)

module _ {A B : Type 0} where
  -- the pigeonhole: distinct things that go to different places of a list are no more than it has
  pub no_more : (f : A → B) (xs : List A) (ys : List B) → Distinct xs → ((x : A) → Memᴰ x xs → Memᴰ (f x) ys)
      → ((x z : A) → Memᴰ x xs → Memᴰ z xs → f x ≡ f z → x ≡ z) → length xs ≤ length ys
  no_more f [] ys d into apart = zero-le
  no_more f (x ∷ xs) ys (fresh n d) into apart =
      let w = taken_out (into x (Memᴰ.head refl)) in
      let other : (z : A) → Memᴰ z xs → f z ≡ f x → ⊥ =
      λ z m e. n (Memᴰ.cast (sym (apart z x (Memᴰ.tail m) (Memᴰ.head refl) e)) m) in
      let rest =
      no_more f xs w.rest d (λ z m. w.others (f z) (into z (Memᴰ.tail m)) (other z m))
      (λ a b i j. apart a b (Memᴰ.tail i) (Memᴰ.tail j)) in
      omega (arith, w.shorter)

  -- every pair of a thing of the one list and a thing of the other
  unfoldable pub pairs : List A → List B → List (A × B)
  pairs [] ys = []
  pairs (x ∷ xs) ys = map (λ (y : B). (x, y)) ys ++ pairs xs ys

  pub length_pairs : (xs : List A) (ys : List B) → length (pairs xs ys) ≡ length xs * length ys
  unfolding pairs
  length_pairs [] ys = sym (zero-mul (length ys))
  length_pairs (x ∷ xs) ys = rw (length-append, length-map, length_pairs xs ys, suc-mul) (omega arith)

  pub pairs_in : {x : A} {y : B} {xs : List A} {ys : List B} → Memᴰ x xs → Memᴰ y ys → Memᴰ (x, y) (pairs xs ys)
  unfolding pairs
  pairs_in {x} {y} {ys} (Memᴰ.head {x = z} {xs = xs} e) m =
      Memᴰ.append_left (pairs xs ys) (Memᴰ.cast (ap (λ (a : A). (a, y)) e) (Memᴰ.map (λ (b : B). (z, b)) m))
  pairs_in {x} {y} {ys} (Memᴰ.tail {x = z} i) m = Memᴰ.append_right (map (λ (b : B). (z, b)) ys) (pairs_in i m)

-- ---- how many are kept

pub leaf_most : (b : Bool) → leaf b ≤ 1
leaf_most true = omega arith
leaf_most false = omega arith

module _ {A : Type 0} where
  pub keep_same : (p q : A → Bool) (xs : List A) → ((x : A) → Memᴰ x xs → p x ≡ q x) → keep p xs ≡ keep q xs
  unfolding keep
  keep_same p q [] f = refl
  keep_same p q (x ∷ xs) f = rw (f x (Memᴰ.head refl), keep_same p q xs (λ z m. f z (Memᴰ.tail m)))

  -- those of which another test holds too, and those of which it fails
  pub keep_parts : (p q : A → Bool) (xs : List A)
      → length (keep p xs) ≡ length (keep (λ x. p x && q x) xs) + length (keep (λ x. p x && not (q x)) xs)
  unfolding keep
  keep_parts p q [] = refl
  keep_parts p q (x ∷ xs) =
      go (p x) (q x) (keep p xs) (keep (λ y. p y && q y) xs) (keep (λ y. p y && not (q y)) xs) (keep_parts p q xs)
    where
      go : (a b : Bool) (k l m : List A) → length k ≡ length l + length m
          → length (cond a (x ∷ k) k) ≡ length (cond (a && b) (x ∷ l) l) + length (cond (a && not b) (x ∷ m) m)
      go true true k l m e = omega arith
      go true false k l m e = omega arith
      go false b k l m e = e

  keep_all : (xs : List A) → keep (λ x. true) xs ≡ xs
  unfolding keep
  keep_all [] = refl
  keep_all (x ∷ xs) = ap (λ (l : List A). x ∷ l) (keep_all xs)

  pub keep_split : (p : A → Bool) (xs : List A) → length (keep p xs) + length (keep (λ x. not (p x)) xs) ≡ length xs
  keep_split p xs = sym (keep_parts (λ x. true) p xs) ∙ ap length (keep_all xs)

  pub keep_one : (p : A → Bool) (x : A) → length (keep p (x ∷ [])) ≡ leaf (p x)
  unfolding keep
  keep_one p x = go (p x)
    where
      go : (b : Bool) → length (cond b (x ∷ []) []) ≡ leaf b
      go true = refl
      go false = refl

  keep_some : (p : A → Bool) (xs : List A) (i : ℕ) (d : A) → i < length xs → p (get_or xs i d) ≡ true → 1 ≤ length (keep p xs)
  unfolding keep
  keep_some p [] i d h e = absurd (omega arith)
  keep_some p (x ∷ xs) zero d h e = rw e (omega arith)
  keep_some p (x ∷ xs) (suc i) d h e = go (p x) (keep_some p xs i d (omega arith) e)
    where
      go : (b : Bool) → 1 ≤ length (keep p xs) → 1 ≤ length (cond b (x ∷ keep p xs) (keep p xs))
      go true l = omega arith
      go false l = l

  -- two places of which the test holds
  pub keep_two : (p : A → Bool) (xs : List A) (i j : ℕ) (d : A) → i < j → j < length xs → p (get_or xs i d) ≡ true → p (get_or xs j d) ≡ true
      → 2 ≤ length (keep p xs)
  unfolding keep
  keep_two p [] i j d h l e f = absurd (omega arith)
  keep_two p (x ∷ xs) i zero d h l e f = absurd (omega arith)
  keep_two p (x ∷ xs) zero (suc j) d h l e f = rw e (omega (arith, keep_some p xs j d (omega arith) f))
  keep_two p (x ∷ xs) (suc i) (suc j) d h l e f = go (p x) (keep_two p xs i j d (omega arith) (omega arith) e f)
    where
      go : (b : Bool) → 2 ≤ length (keep p xs) → 2 ≤ length (cond b (x ∷ keep p xs) (keep p xs))
      go true m = omega arith
      go false m = m

-- ---- the numbers from i on

pub up_from_last : (i k : ℕ) → up_from i (suc k) ≡ up_from i k ++ ((i + k) ∷ [])
unfolding up_from
up_from_last i zero = rw add-zero
up_from_last i (suc k) =
    let e : suc i + k ≡ i + suc k = omega arith in
    ap (λ (l : List ℕ). i ∷ l) (up_from_last (suc i) k ∙ rw e)

pub up_from_distinct : (i k : ℕ) → Distinct (up_from i k)
unfolding up_from
up_from_distinct i zero = alone
up_from_distinct i (suc k) = fresh {x = i} {xs = up_from (suc i) k} (λ m. omega (arith, (in_up_from (suc i) k m).0)) (up_from_distinct (suc i) k)
