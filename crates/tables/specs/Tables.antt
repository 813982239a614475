-- Tables over all sets of columns.
use Rattle.std.specs.Prelude.{◌≡◌, Bool, cond, ◌&&◌, List, ℕ, ◌+◌, ◌-◌, ◌*◌, ◌^◌, ◌<◌, get_or, drop}
use Rattle.rules.specs.Lists.{up_from}
use Rattle.rules.specs.Sets.{most_columns, has, worth}
use Rattle.needs.specs.Lanes.{Lanes}

-- how many blocks the sets of n columns are: one up to six columns, and twice as many for each column more
abbrev pub blocks : ℕ → ℕ
blocks n = 2 ^ (n - 6)

-- how many blocks the sets of all columns are
abbrev pub all_blocks : ℕ
all_blocks = blocks most_columns

-- the first so many words of a table say of every set of their blocks whether the test holds
abbrev pub Tells : ℕ → (ℕ → Bool) → List ℕ → Type 0
Tells count test words = (block : ℕ) → block < count → Lanes block test (get_or words block 0)

-- a table of numbers has the value of each of the first so many sets at the set's own place
abbrev pub Valued : ℕ → (ℕ → ℕ) → List ℕ → Type 0
Valued count value numbers = (s : ℕ) → s < count → get_or numbers s 0 ≡ value s

-- of the sets that a table tells of, another table tells only of those of which a further test holds too
abbrev pub Narrows : ℕ → (ℕ → Bool) → List ℕ → List ℕ → Type 0
Narrows count further old new = (test : ℕ → Bool) → Tells count test old → Tells count (λ s. test s && further s) new

-- the sets of a block whose lanes are set get need k, worth 2 to the power k; the lists have the places of the block
abbrev pub AddsBlock : ℕ → ℕ → List ℕ → List ℕ → Type 0
AddsBlock k lanes old new = (lane : ℕ) → lane < 64 → get_or new lane 0 ≡ get_or old lane 0 + cond (has lane lanes) (2 ^ k) 0

-- the sets that a table of words tells of get need k, worth 2 to the power k
abbrev pub Adds : ℕ → ℕ → List ℕ → List ℕ → List ℕ → Type 0
Adds k count words old new =
    (test : ℕ → Bool) (value : ℕ → ℕ) → Tells count test words → Valued (64 * count) value old
    → Valued (64 * count) (λ s. value s + cond (test s) (2 ^ k) 0) new

-- the places from here on are as they were
abbrev pub Stays : ℕ → List ℕ → List ℕ → Type 0
Stays from old new = drop from new ≡ drop from old

-- the set with its columns in the other order: of n columns, column i is there where column n-1-i was
unfoldable pub mirror : ℕ → ℕ → ℕ
mirror n s = worth (λ i. has (n - 1 - i) s) (up_from 0 n)
