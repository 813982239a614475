-- Correct splits. "A split is a list of sets, the extracts. It is correct (000, Definition 4) when each extract is non-empty and within the
-- columns, none contains a forbidden set, each need is true of at least one extract, and no two extracts share a column."
use Rattle.std.specs.Prelude.{◌≡◌, Bool, true, false, not, ◌&&◌, ℕ, ◌+◌, ◌<◌, ◌^◌, eqb, length, get_or}
use mathlib.Core.List.{List, [], ◌∷◌, Memᴰ}
use Rattle.rules.specs.Lists.{every, any_of}
use Rattle.rules.specs.Sets.{within, size}
use Rattle.rules.specs.Needs.{Need, meets}
use Rattle.rules.specs.Jobs.{Job, breaks, allowed, unlinked}

-- the sentence as a proposition; its last three parts are the three of 000's Definition 4
pub record Correct (job : Job) (split : List ℕ) : Type 0 where
  pub proper : (s : ℕ) → Memᴰ s split → (0 < s) × (s < 2 ^ job.columns)
  pub confidential : (s f : ℕ) → Memᴰ s split → Memᴰ f job.forbidden → breaks job s f ≡ false
  pub visible : (v : Need) → Memᴰ v job.needs → (s : ℕ) × Memᴰ s split × (meets v s ≡ true)
  pub unlinkable : (i j : ℕ) → i < j → j < length split → unlinked job (get_or split i 0) (get_or split j 0) ≡ true

-- an extract is non-empty and within the columns
unfoldable pub proper : Job → ℕ → Bool
proper job s = not (eqb s 0) && within job.columns s

-- no two extracts share a column
unfoldable pub all_unlinked : Job → List ℕ → Bool
all_unlinked job [] = true
all_unlinked job (s ∷ split) = every (unlinked job s) split && all_unlinked job split

-- the need is true of at least one extract
unfoldable pub met : List ℕ → Need → Bool
met split v = any_of (meets v) split

-- the sentence as a test
unfoldable pub correct : Job → List ℕ → Bool
correct job split =
    every (proper job) split && (every (allowed job) split && (all_unlinked job split && every (met split) job.needs))

-- how many columns the extracts have together
unfoldable pub columns_in : List ℕ → ℕ
columns_in [] = 0
columns_in (s ∷ split) = size s + columns_in split
