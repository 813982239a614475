-- Laws of the plain words about lists. Assumes nothing.
use mathlib.Core.Path.{◌≡◌, refl, sym, ap, subst, ◌∙◌}
use mathlib.Core.Logic.{◌⊎◌, inl, inr}
use mathlib.Core.Bool.{Bool, true, false, not, cond, ◌&&◌, ◌||◌, true≢false, false≢true, and-eq-true_iff, or-false, or_assoc}
use mathlib.Core.List.Memᴰ
use mathlib.Core.List.{List, [], ◌∷◌, ◌++◌, Memᴰ}
use Rattle.rules.proofs.Options.{Option, None, Some, option_map, some-injective, none-ne-some}
use Prim.Native.Nat.{ℕ, zero, suc, ◌+◌, ◌≤◌, ◌<◌}
use native.Mathlib.Decide.{ℕ_discrete}
use native.Mathlib.Omega.{arith}
use lib.ListN.{length, get_or, drop}
use Rattle.rules.specs.Lists.{every, any_of, keep, first_where, first_of, up_from}

-- ---- tests joined by and, or, not

pub and_parts : (a b : Bool) → (a && b) ≡ true → (a ≡ true) × (b ≡ true)
and_parts a b = (and-eq-true_iff a b).0

pub and_both : (a b : Bool) → a ≡ true → b ≡ true → (a && b) ≡ true
and_both a b p q = (and-eq-true_iff a b).1 (p, q)

pub or_neither : (a b : Bool) → (a || b) ≡ false → (a ≡ false) × (b ≡ false)
or_neither true b e = absurd (true≢false e)
or_neither false b e = (refl, e)

pub or_none : (a b : Bool) → a ≡ false → b ≡ false → (a || b) ≡ false
or_none true b p q = p
or_none false b p q = q

pub or_one : (a b : Bool) → (a || b) ≡ true → (a ≡ true) ⊎ (b ≡ true)
or_one true b e = inl refl
or_one false b e = inr e

pub or_left : (a b : Bool) → a ≡ true → (a || b) ≡ true
or_left true b e = refl
or_left false b e = absurd (false≢true e)

pub or_right : (a b : Bool) → b ≡ true → (a || b) ≡ true
or_right true b e = refl
or_right false b e = e

-- two tests are equal when each holds where the other does
pub same_test : (a b : Bool) → (a ≡ true → b ≡ true) → (b ≡ true → a ≡ true) → a ≡ b
same_test true true f g = refl
same_test true false f g = absurd (false≢true (f refl))
same_test false true f g = absurd (false≢true (g refl))
same_test false false f g = refl

-- a test that holds is not one that fails
pub holds_fails : {C : Type 0} (a : Bool) → a ≡ true → a ≡ false → C
holds_fails a p q = absurd (true≢false (sym p ∙ q))

-- a test that cannot hold fails
pub not_holds : (a : Bool) → (a ≡ true → ⊥) → a ≡ false
not_holds true f = absurd (f refl)
not_holds false f = refl

module _ {A : Type 0} where
  -- ---- every

  pub every_in : (p : A → Bool) {x : A} {xs : List A} → every p xs ≡ true → Memᴰ x xs → p x ≡ true
  unfolding every
  every_in p {x} {xs = y ∷ ys} e (Memᴰ.head q) = ap p q ∙ (and_parts (p y) (every p ys) e).0
  every_in p {x} {xs = y ∷ ys} e (Memᴰ.tail m) = every_in p (and_parts (p y) (every p ys) e).1 m
  every_in p {x = x} {xs = []} e m = elim m [ ]

  pub every_all : (p : A → Bool) (xs : List A) → ((x : A) → Memᴰ x xs → p x ≡ true) → every p xs ≡ true
  unfolding every
  every_all p [] f = refl
  every_all p (x ∷ xs) f =
      and_both (p x) (every p xs) (f x (Memᴰ.head refl)) (every_all p xs (λ y m. f y (Memᴰ.tail m)))

  -- ---- any

  pub any_one : (p : A → Bool) (xs : List A) → any_of p xs ≡ true → (x : A) × Memᴰ x xs × (p x ≡ true)
  unfolding any_of
  any_one p [] e = absurd (false≢true e)
  any_one p (x ∷ xs) e = go (or_one (p x) (any_of p xs) e) (any_one p xs)
    where
      go : (p x ≡ true) ⊎ (any_of p xs ≡ true) → (any_of p xs ≡ true → (y : A) × Memᴰ y xs × (p y ≡ true))
          → (y : A) × Memᴰ y (x ∷ xs) × (p y ≡ true)
      go (inl h) f = (x, Memᴰ.head refl, h)
      go (inr h) f = ((f h).0, Memᴰ.tail (f h).1, (f h).2)

  pub any_in : (p : A → Bool) {x : A} {xs : List A} → Memᴰ x xs → p x ≡ true → any_of p xs ≡ true
  unfolding any_of
  any_in p {x} {xs = y ∷ ys} (Memᴰ.head q) e = or_left (p y) (any_of p ys) (sym (ap p q) ∙ e)
  any_in p {x} {xs = y ∷ ys} (Memᴰ.tail m) e = or_right (p y) (any_of p ys) (any_in p m e)
  any_in p {x = x} {xs = []} m e = elim m [ ]

  pub not_any_in : (p : A → Bool) {x : A} {xs : List A} → any_of p xs ≡ false → Memᴰ x xs → p x ≡ false
  unfolding any_of
  not_any_in p {x} {xs = y ∷ ys} e (Memᴰ.head q) = ap p q ∙ (or_neither (p y) (any_of p ys) e).0
  not_any_in p {x} {xs = y ∷ ys} e (Memᴰ.tail m) = not_any_in p (or_neither (p y) (any_of p ys) e).1 m
  not_any_in p {x = x} {xs = []} e m = elim m [ ]

  pub not_any_all : (p : A → Bool) (xs : List A) → ((x : A) → Memᴰ x xs → p x ≡ false) → any_of p xs ≡ false
  unfolding any_of
  not_any_all p [] f = refl
  not_any_all p (x ∷ xs) f =
      or_none (p x) (any_of p xs) (f x (Memᴰ.head refl)) (not_any_all p xs (λ y m. f y (Memᴰ.tail m)))

  -- ---- places and members

  pub any_append : (p : A → Bool) (xs : List A) (x : A) → any_of p (xs ++ (x ∷ [])) ≡ (any_of p xs || p x)
  unfolding any_of
  any_append p [] x = or-false (p x)
  any_append p (y ∷ xs) x = ap (λ (b : Bool). p y || b) (any_append p xs x) ∙ sym (or_assoc (p y) (any_of p xs) (p x))

  pub get_d_in : (xs : List A) (i : ℕ) (d : A) → i < length xs → Memᴰ (get_or xs i d) xs
  get_d_in [] i d h = absurd (omega arith)
  get_d_in (x ∷ xs) zero d h = Memᴰ.head refl
  get_d_in (x ∷ xs) (suc i) d h = Memᴰ.tail (get_d_in xs i d (omega arith))

  pub in_get_d : {x : A} {xs : List A} (d : A) → Memᴰ x xs → (i : ℕ) × (i < length xs) × (get_or xs i d ≡ x)
  in_get_d {x} {xs = y ∷ ys} d (Memᴰ.head e) = (0, omega arith, sym e)
  in_get_d {x} {xs = y ∷ ys} d (Memᴰ.tail m) = let r = in_get_d d m in (suc r.0, omega arith, r.2)
  in_get_d {x = x} {xs = []} d m = elim m [ ]

  -- what stands behind the first k is one of all
  pub drop_in : {x : A} (k : ℕ) (xs : List A) → Memᴰ x (drop k xs) → Memᴰ x xs
  drop_in zero xs m = m
  drop_in (suc k) [] m = m
  drop_in (suc k) (y ∷ xs) m = Memᴰ.tail (drop_in k xs m)

  -- so is the first one behind them
  pub after_in : {x : A} (k : ℕ) (xs : List A) → first_of (drop k xs) ≡ Some x → Memᴰ x xs
  unfolding first_of
  after_in {x} k xs e = drop_in k xs (go (drop k xs) e)
    where
      go : (ys : List A) → first_of ys ≡ Some x → Memᴰ x ys
      go [] f = absurd (none-ne-some x f)
      go (y ∷ ys) f = Memᴰ.head (sym (some-injective _ _ f))

  -- one before others is one of all
  pub in_before : {x : A} {xs : List A} (before after : List A) → xs ≡ before ++ after → Memᴰ x before → Memᴰ x xs
  in_before {x} before after e m = subst (Memᴰ x) (sym e) (Memᴰ.append_left after m)

  -- so is one between others
  pub in_middle : {x : A} {xs : List A} (before after : List A) → xs ≡ before ++ (x ∷ after) → Memᴰ x xs
  in_middle {x} before after e = subst (Memᴰ x) (sym e) (Memᴰ.append_right before (Memᴰ.head refl))

  -- ---- keep

  -- none are kept where the test fails of all
  pub keep_none : (p : A → Bool) (xs : List A) → ((x : A) → Memᴰ x xs → p x ≡ false) → keep p xs ≡ []
  unfolding keep
  keep_none p [] f = refl
  keep_none p (x ∷ xs) f = rw (f x (Memᴰ.head refl)) (keep_none p xs (λ y m. f y (Memᴰ.tail m)))

  pub keep_in : (p : A → Bool) {x : A} {xs : List A} → Memᴰ x xs → p x ≡ true → Memᴰ x (keep p xs)
  unfolding keep
  keep_in p {x} {xs = y ∷ ys} (Memᴰ.head q) e = rw (sym (ap p q) ∙ e) (Memᴰ.head q)
  keep_in p {x} {xs = y ∷ ys} (Memᴰ.tail m) e = go (p y) (keep_in p m e)
    where
      go : (b : Bool) → Memᴰ x (keep p ys) → Memᴰ x (cond b (y ∷ keep p ys) (keep p ys))
      go true i = Memᴰ.tail i
      go false i = i
  keep_in p {x = x} {xs = []} m e = elim m [ ]

  pub in_keep : (p : A → Bool) (x : A) (xs : List A) → Memᴰ x (keep p xs) → Memᴰ x xs × (p x ≡ true)
  unfolding keep
  in_keep p x (y ∷ ys) m = go (p y) refl (in_keep p x ys) m
    where
      old : Memᴰ x ys × (p x ≡ true) → Memᴰ x (y ∷ ys) × (p x ≡ true)
      old i = (Memᴰ.tail i.0, i.1)

      go : (b : Bool) → p y ≡ b → (Memᴰ x (keep p ys) → Memᴰ x ys × (p x ≡ true))
          → Memᴰ x (cond b (y ∷ keep p ys) (keep p ys)) → Memᴰ x (y ∷ ys) × (p x ≡ true)
      go true e f (Memᴰ.head q) = (Memᴰ.head q, ap p q ∙ e)
      go true e f (Memᴰ.tail i) = old (f i)
      go false e f i = old (f i)
  in_keep p x [] m = elim m [ ]

  pub keep_few : (p : A → Bool) (xs : List A) → length (keep p xs) ≤ length xs
  unfolding keep
  keep_few p [] = omega arith
  keep_few p (x ∷ xs) = go (p x) (keep_few p xs)
    where
      go : (b : Bool) → length (keep p xs) ≤ length xs → length (cond b (x ∷ keep p xs) (keep p xs)) ≤ suc (length xs)
      go true h = omega arith
      go false h = omega arith

  pub keep_fewer : (p : A → Bool) (xs : List A) → any_of (λ x. not (p x)) xs ≡ true → length (keep p xs) < length xs
  unfolding keep any_of
  keep_fewer p [] e = absurd (false≢true e)
  keep_fewer p (x ∷ xs) e = go (p x) e (keep_fewer p xs)
    where
      go : (b : Bool) → (not b || any_of (λ x. not (p x)) xs) ≡ true → (any_of (λ x. not (p x)) xs ≡ true → length (keep p xs) < length xs)
          → length (cond b (x ∷ keep p xs) (keep p xs)) < suc (length xs)
      go true q f = omega (arith, f q)
      go false q f = omega (arith, keep_few p xs)

  -- ---- the first where

  pub first_none : (p : A → Bool) (xs : List A) → first_where p xs ≡ None → any_of p xs ≡ false
  unfolding first_where any_of
  first_none p [] e = refl
  first_none p (x ∷ xs) e = go (p x) (first_where p xs) (first_none p xs) e
    where
      go : (b : Bool) (o : Option ℕ) → (o ≡ None → any_of p xs ≡ false) → cond b (Some 0) (option_map suc o) ≡ None
          → (b || any_of p xs) ≡ false
      go true o f q = let z : ◌≡◌ {A = Bool} true false = cc in absurd (true≢false z)
      go false None f q = f refl
      go false (Some i) f q = let z : ◌≡◌ {A = Bool} true false = cc in absurd (true≢false z)

  pub none_first : (p : A → Bool) (xs : List A) → any_of p xs ≡ false → first_where p xs ≡ None
  unfolding first_where any_of
  none_first p [] e = refl
  none_first p (x ∷ xs) e =
      let here : p x ≡ false = (or_neither (p x) (any_of p xs) e).0 in
      rw (here, none_first p xs (or_neither (p x) (any_of p xs) e).1)

-- ---- the numbers from i on

pub in_up_from : (i k : ℕ) {x : ℕ} → Memᴰ x (up_from i k) → (i ≤ x) × (x < i + k)
unfolding up_from
in_up_from i zero m = elim m [ ]
in_up_from i (suc k) {x} (Memᴰ.head e) = (omega arith, omega arith)
in_up_from i (suc k) {x} (Memᴰ.tail m) = let r = in_up_from (suc i) k m in (omega arith, omega arith)

pub up_from_in : (i k x : ℕ) → i ≤ x → x < i + k → Memᴰ x (up_from i k)
unfolding up_from
up_from_in i zero x l h = absurd (omega arith)
up_from_in i (suc k) x l h = go (ℕ_discrete x i) (up_from_in (suc i) k x)
  where
    go : Dec (x ≡ i) → (suc i ≤ x → x < suc i + k → Memᴰ x (up_from (suc i) k)) → Memᴰ x (i ∷ up_from (suc i) k)
    go (yes e) rest = Memᴰ.head e
    go (no n) rest = Memᴰ.tail (rest (omega arith) (omega arith))

pub up_from_append : (i j k : ℕ) → up_from i (j + k) ≡ up_from i j ++ up_from (i + j) k
unfolding up_from
up_from_append i zero k =
    let None : 0 + k ≡ k = omega arith in
    let here : i + 0 ≡ i = omega arith in
    rw (None, here)
up_from_append i (suc j) k =
    let one : suc j + k ≡ suc (j + k) = omega arith in
    let next : i + suc j ≡ suc i + j = omega arith in
    rw (one, next) (ap (λ (l : List ℕ). i ∷ l) (up_from_append (suc i) j k))

pub length_up_from : (i k : ℕ) → length (up_from i k) ≡ k
unfolding up_from
length_up_from i zero = refl
length_up_from i (suc k) = ap suc (length_up_from (suc i) k)
