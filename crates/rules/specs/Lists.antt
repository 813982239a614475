-- Plain words about lists that the rules are written in.
use Rattle.std.specs.Prelude.{Bool, true, false, cond, ◌&&◌, ◌||◌, List, [], ◌∷◌, ℕ, zero, suc}
use Rattle.rules.specs.Options.{Option, None, Some, option_map}

module _ {A : Type 0} where
  -- the test holds of every one
  unfoldable pub every : (A → Bool) → List A → Bool
  every p [] = true
  every p (x ∷ xs) = p x && every p xs

  -- the test holds of at least one
  unfoldable pub any_of : (A → Bool) → List A → Bool
  any_of p [] = false
  any_of p (x ∷ xs) = p x || any_of p xs

  -- those of which the test holds, in their order
  unfoldable pub keep : (A → Bool) → List A → List A
  keep p [] = []
  keep p (x ∷ xs) = cond (p x) (x ∷ keep p xs) (keep p xs)

  -- the place of the first of which the test holds
  unfoldable pub first_where : (A → Bool) → List A → Option ℕ
  first_where p [] = None
  first_where p (x ∷ xs) = cond (p x) (Some 0) (option_map suc (first_where p xs))

  -- the first one, if there is one
  unfoldable pub first_of : List A → Option A
  first_of [] = None
  first_of (x ∷ xs) = Some x

  -- a list written over the first places of another, as far as there are places; the places after it stay
  unfoldable pub written : List A → List A → List A
  written [] old = old
  written (x ∷ new) [] = []
  written (x ∷ new) (y ∷ old) = x ∷ written new old

-- the numbers from i on, k of them
unfoldable pub up_from : ℕ → ℕ → List ℕ
up_from i zero = []
up_from i (suc k) = i ∷ up_from (suc i) k
