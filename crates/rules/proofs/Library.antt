-- What the library's words on lists say in the words of the rules: a chain of an iterator's methods answers in the library's. Assumes nothing.
use Rattle.std.specs.Prelude.{◌≡◌, Bool, true, false, cond, not, ◌&&◌, ◌||◌, List, [], ◌∷◌, ℕ, suc, ◌+◌, length, ltb, position}
use Rattle.std.specs.List.{list_any, list_all, position_or_len}
use Rattle.std.proofs.Common.{refl, ap, ◌∙◌, arith}
use borrow.Author.Tests.{lt-ltb, le-ltb, ltb-true, ltb-false}
use Rattle.rules.specs.Options.{Option, None, Some, option_map}
use Rattle.rules.specs.Lists.{every, any_of, first_where}

-- a place and a length that are both one more
one_more : (k n : ℕ) (b : Bool) → ltb k n ≡ b → ltb (suc k) (suc n) ≡ b
one_more k n true e = lt-ltb (suc k) (suc n) (omega (arith, ltb-true k n e))
one_more k n false e = le-ltb (suc k) (suc n) (omega (arith, ltb-false k n e))

-- one place more before each of them
later : (b : Bool) (k : ℕ) → cond b (Some (suc k)) None ≡ option_map suc (cond b (Some k) None)
later true k = refl
later false k = refl

module _ {A : Type 0} (p : A → Bool) where
  -- what the library answers for a list, by what the test says of its first and by the place in the rest
  answer : ℕ → ℕ → Bool → Option ℕ
  answer k n here =
      let place = cond (not here) (1 + k) 0 in
      cond (ltb place (suc n)) (Some place) None

  place_on : (k n : ℕ) (here : Bool) → answer k n here ≡ cond here (Some 0) (option_map suc (cond (ltb k n) (Some k) None))
  unfolding answer
  place_on k n true = ap (λ b. cond b (Some 0) None) (lt-ltb 0 (suc n) (omega arith))
  place_on k n false =
      let next : 1 + k ≡ suc k = omega arith in
      ap (λ (place : ℕ). cond (ltb place (suc n)) (Some place) None) next
      ∙ ap (λ b. cond b (Some (suc k)) None) (one_more k n (ltb k n) refl)
      ∙ later (ltb k n) k

  pub position_first : (xs : List A) → position p xs ≡ first_where p xs
  unfolding first_where answer
  position_first [] = refl
  position_first (x ∷ xs) =
      place_on (position_or_len p xs) (length xs) (p x)
      ∙ ap (λ found. cond (p x) (Some 0) (option_map suc found)) (position_first xs)

  pub any_any_of : (xs : List A) → list_any p xs ≡ any_of p xs
  unfolding any_of
  any_any_of [] = refl
  any_any_of (x ∷ xs) = ap (λ b. p x || b) (any_any_of xs)

  pub all_every : (xs : List A) → list_all p xs ≡ every p xs
  unfolding every
  all_every [] = refl
  all_every (x ∷ xs) = ap (λ b. p x && b) (all_every xs)
