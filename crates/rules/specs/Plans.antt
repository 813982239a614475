-- The planner's split. "Among all correct splits those with fewest extracts; among these, fewest columns in all; written as rising numbers,
-- and among what is left, the one whose first differing number is smaller. Exactly one split meets this."
use Rattle.std.specs.Prelude.{◌≡◌, Bool, true, false, cond, List, [], ◌∷◌, ◌++◌, map, ℕ, ◌+◌, ◌-◌, ◌^◌, eqb, ltb, leb, length}
use Rattle.rules.specs.Options.{Option, None, Some}
use Rattle.rules.specs.Lists.{every, keep, up_from}
use Rattle.rules.specs.Jobs.{Job, allowed, unlinked, price}
use Rattle.rules.specs.Splits.{correct}

-- a number put in before the first that is not smaller
unfoldable pub put_in : ℕ → List ℕ → List ℕ
put_in s [] = s ∷ []
put_in s (t ∷ split) = cond (leb s t) (s ∷ t ∷ split) (t ∷ put_in s split)

-- "written as rising numbers"
unfoldable pub rising : List ℕ → List ℕ
rising [] = []
rising (s ∷ split) = put_in s (rising split)

-- "columns in all": what the extracts cost together
unfoldable pub cost : Job → List ℕ → ℕ
cost job [] = 0
cost job (s ∷ split) = price job s + cost job split

-- what splits are compared by, most important first
unfoldable pub rank : Job → List ℕ → List ℕ
rank job split = length split ∷ cost job split ∷ rising split

-- the first differing number is smaller, or there is none
unfoldable pub not_after : List ℕ → List ℕ → Bool
not_after [] ys = true
not_after (x ∷ xs) [] = false
not_after (x ∷ xs) (y ∷ ys) = cond (eqb x y) (not_after xs ys) (ltb x y)

-- the sentence as a proposition
pub record Planned (job : Job) (split : List ℕ) : Type 0 where
  pub right : correct job split ≡ true
  pub written : rising split ≡ split
  pub first : (other : List ℕ) → correct job other ≡ true → not_after (rank job split) (rank job other) ≡ true

-- every way to choose, in the order of the candidates, sets of which no two share a column; `chosen` are those chosen before
unfoldable pub choices : Job → List ℕ → List ℕ → List (List ℕ)
choices job [] chosen = [] ∷ []
choices job (s ∷ candidates) chosen =
    choices job candidates chosen
    ++ cond (every (λ c. unlinked job c s) chosen) (map (λ split. s ∷ split) (choices job candidates (s ∷ chosen))) []

-- every correct split, written as rising numbers. Only allowed sets are tried: they alone can stand in a correct split
unfoldable pub splits : Job → List (List ℕ)
splits job = keep (correct job) (choices job (keep (allowed job) (up_from 1 (2 ^ job.columns - 1))) [])

-- of two splits the one with the lower rank
unfoldable pub better : Job → List ℕ → Option (List ℕ) → List ℕ
better job split None = split
better job split (Some other) = cond (not_after (rank job split) (rank job other)) split other

-- the one with the lowest rank
unfoldable pub best : Job → List (List ℕ) → Option (List ℕ)
best job [] = None
best job (split ∷ others) = Some (better job split (best job others))

-- the planner's split, by trying all; none where no split is correct
unfoldable pub plan : Job → Option (List ℕ)
plan job = best job (splits job)
