-- Laws of tests of the members of a list: of two lists one after the other, of a weaker test, place by place. Assumes nothing.
use mathlib.Core.Path.{◌≡◌, refl, sym, ap, ◌∙◌}
use mathlib.Core.Bool.{Bool, true, false, cond, ◌&&◌, ◌||◌, false≢true, and_assoc}
use mathlib.Core.List.{List, [], ◌∷◌, ◌++◌}
use Rattle.rules.specs.Options.{Some, option_map}
use Prim.Native.Nat.{ℕ, suc, ◌<◌}
use native.Mathlib.Omega.{arith}
use lib.ListN.{length, get_or}
use Rattle.rules.specs.Lists.{every, any_of, keep, first_where}
use Rattle.rules.proofs.Lists.{every_in, every_all, in_get_d}

module _ {A : Type 0} (p : A → Bool) where
  -- a test holds of every one of two lists exactly if of every one of each
  pub every_append : (xs ys : List A) → every p (xs ++ ys) ≡ (every p xs && every p ys)
  unfolding every
  every_append [] ys = refl
  every_append (x ∷ xs) ys = ap (λ (b : Bool). p x && b) (every_append xs ys) ∙ sym (and_assoc (p x) (every p xs) (every p ys))

  -- those kept of two lists are those kept of each
  pub keep_append : (xs ys : List A) → keep p (xs ++ ys) ≡ keep p xs ++ keep p ys
  unfolding keep
  keep_append [] ys = refl
  keep_append (x ∷ xs) ys = rw (keep_append xs ys) (go (p x))
    where
      go : (b : Bool) → cond b (x ∷ (keep p xs ++ keep p ys)) (keep p xs ++ keep p ys) ≡ cond b (x ∷ keep p xs) (keep p xs) ++ keep p ys
      go true = refl
      go false = refl

  -- a test that holds where another does holds of every one if the other does
  pub every_weaker : (q : A → Bool) (xs : List A) → ((x : A) → p x ≡ true → q x ≡ true) → every p xs ≡ true → every q xs ≡ true
  every_weaker q xs f h = every_all q xs (λ x m. f x (every_in p h m))

  -- a test that holds at every place holds of every one
  pub every_places : (xs : List A) (d : A) → ((i : ℕ) → i < length xs → p (get_or xs i d) ≡ true) → every p xs ≡ true
  every_places xs d f = every_all p xs λ x m. let r = in_get_d d m in sym (ap p r.2) ∙ f r.0 r.1

  -- where a test holds of one there is a first place of which it holds
  pub first_below : (xs : List A) → any_of p xs ≡ true → (i : ℕ) × (first_where p xs ≡ Some i) × (i < length xs)
  unfolding any_of first_where
  first_below [] e = absurd (false≢true e)
  first_below (x ∷ xs) e = go (p x) e (first_below xs)
    where
      go : (b : Bool) → (b || any_of p xs) ≡ true → (any_of p xs ≡ true → (i : ℕ) × (first_where p xs ≡ Some i) × (i < length xs))
          → (i : ℕ) × (cond b (Some 0) (option_map suc (first_where p xs)) ≡ Some i) × (i < suc (length xs))
      go true q f = (0, refl, omega arith)
      go false q f = let r = f q in (suc r.0, ap (option_map suc) r.1, omega arith)
