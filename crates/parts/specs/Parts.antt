-- Two further tables over all sets of columns: what can still be gained within a set, and which sets have no column too many.
use Rattle.std.specs.Prelude.{◌≡◌, true, List, ℕ, ◌^◌, ◌<◌, get_or}
use Rattle.rules.specs.Sets.{most_columns, has, contains, without}

-- the set lies within another, and is a number of 16 bits
pub record Inside (around s : ℕ) : Type 0 where
  pub small : s < 2 ^ most_columns
  pub within : contains around s ≡ true

-- what a table says of a set
abbrev pub in_table : List ℕ → ℕ → ℕ
in_table table s = get_or table s 0

-- what is said to be possible holds what the set gains, and what is possible where one of its columns is taken away
pub record Gathers (gain possible : ℕ → ℕ) (columns s all : ℕ) : Type 0 where
  pub own : contains all (gain s) ≡ true
  pub parts : (i : ℕ) → i < columns → contains all (possible (without s (2 ^ i))) ≡ true

-- what the set gains; or nothing, if it gains as much without one of its columns
pub data Leans (gain : ℕ → ℕ) (s gained : ℕ) : Type 0 where
  whole : gained ≡ gain s → Leans gain s gained
  spared : (i : ℕ) → i < most_columns → has i s ≡ true → gain (without s (2 ^ i)) ≡ gain s → gained ≡ 0 → Leans gain s gained

-- a part of the set, perhaps the set itself, has in the other table what the set gains
pub record LeanPart (gain lean : ℕ → ℕ) (s : ℕ) : Type 0 where
  pub part : ℕ
  pub inside : Inside s part
  pub same : lean part ≡ gain s

-- within the free columns the other table has no set that gains less than it says, and as much as can be had
pub record Leaned (gain lean : ℕ → ℕ) (free : ℕ) : Type 0 where
  pub no_more : (s : ℕ) → Inside free s → contains (gain s) (lean s) ≡ true
  pub as_much : (s : ℕ) → Inside free s → LeanPart gain lean s

-- whatever a set gains is possible within every set around it
pub record Bounded (lean possible : ℕ → ℕ) (free : ℕ) : Type 0 where
  pub nothing : lean 0 ≡ 0
  pub bound : (around s : ℕ) → Inside free around → Inside around s → contains (possible around) (lean s) ≡ true

-- both tables are right within the free columns
pub record Tabled (gain lean possible : ℕ → ℕ) (free : ℕ) : Type 0 where
  pub leaned : Leaned gain lean free
  pub bounded : Bounded lean possible free
