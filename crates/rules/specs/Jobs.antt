-- A job. "A job has columns 0 to n-1, forbidden sets (000, Definition 1) and needs (Definition 2)."
use Rattle.std.specs.Prelude.{Bool, not, List, ℕ}
use Rattle.rules.specs.Lists.{any_of}
use Rattle.rules.specs.Sets.{contains, apart, size}
use Rattle.rules.specs.Needs.{Need}

pub record Job : Type 0 where
  pub columns : ℕ
  pub forbidden : List ℕ
  pub needs : List Need

-- What later rules of a job may change is asked of the job, by these names: columns may give others away, an extract may be bounded, and a column
-- may cost more than another.

-- the set breaks the forbidden set: whoever sees the one sees the other
unfoldable pub breaks : Job → ℕ → ℕ → Bool
breaks job s f = contains s f

-- the set breaks no forbidden set
unfoldable pub safe : Job → ℕ → Bool
safe job s = not (any_of (breaks job s) job.forbidden)

-- the set may be used as an extract, whatever it is used for
unfoldable pub allowed : Job → ℕ → Bool
allowed job s = safe job s

-- two sets share no column
unfoldable pub unlinked : Job → ℕ → ℕ → Bool
unlinked job s t = apart s t

-- what a set costs as an extract: as much as it has columns
unfoldable pub price : Job → ℕ → ℕ
price job s = size s
