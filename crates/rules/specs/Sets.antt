-- Sets of columns. "A set of columns is a number: column i is bit i, worth 2 to the power i."
use Rattle.std.specs.Prelude.{Bool, not, cond, ◌&&◌, ◌||◌, List, [], ◌∷◌, ℕ, ◌+◌, ◌-◌, ◌/◌, ◌%◌, ◌^◌, eqb, ltb, length}
use Rattle.rules.specs.Lists.{every, keep, up_from}

-- "Columns 1 to 16."
abbrev pub most_columns : ℕ
most_columns = 16

-- how many sets of so many columns there are
abbrev pub all_sets : ℕ
all_sets = 2 ^ most_columns

-- column i is in the set s: bit i is set
abbrev pub has : ℕ → ℕ → Bool
has i s = eqb (s / 2 ^ i % 2) 1

-- the columns of a set, rising
unfoldable pub members : ℕ → List ℕ
members s = keep (λ i. has i s) (up_from 0 most_columns)

-- every column of t is in s
unfoldable pub contains : ℕ → ℕ → Bool
contains s t = every (λ i. has i s) (members t)

-- no column of t is in s
unfoldable pub apart : ℕ → ℕ → Bool
apart s t = every (λ i. not (has i s)) (members t)

-- "how many columns a set has"
unfoldable pub size : ℕ → ℕ
size s = length (members s)

-- "The empty set of columns"
abbrev pub empty : ℕ
empty = 0

-- "the full set for n columns"
abbrev pub full : ℕ → ℕ
full n = 2 ^ n - 1

-- what those of the columns are worth together of which the test holds
unfoldable pub worth : (ℕ → Bool) → List ℕ → ℕ
worth p [] = 0
worth p (i ∷ columns) = cond (p i) (2 ^ i) 0 + worth p columns

-- the columns of both sets
unfoldable pub union : ℕ → ℕ → ℕ
union s t = worth (λ i. has i s || has i t) (up_from 0 most_columns)

-- the columns of s that are not in t
unfoldable pub without : ℕ → ℕ → ℕ
without s t = worth (λ i. has i s && not (has i t)) (up_from 0 most_columns)

-- the set names no column but 0 to n-1
abbrev pub within : ℕ → ℕ → Bool
within n s = ltb s (2 ^ n)
