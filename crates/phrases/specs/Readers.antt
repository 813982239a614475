-- What the readers of a need line ask and promise.
use Rattle.std.specs.Prelude.{◌≡◌, List, [], ◌++◌, ℕ, ◌+◌, ◌≤◌, length, take}
use Rattle.rules.specs.Names.{Spot}
use Rattle.rules.specs.Phrases.{Formula, Kind, Stands}
use Rattle.rules.specs.Sheets.{marks_in}
use Rattle.naming.specs.Words.{Words, columns_from}
use Rattle.phrases.specs.declared.Read.{Read}

-- how many marks a formula has; that doesn't depend on which columns its names are
abbrev pub marks_long : Formula → ℕ
marks_long v = length (marks_in [] v)

-- a phrase of this kind stands at place p, and behind n marks there is room for its marks
pub record Readable (s : List ℕ) (kind : Kind) (p n room : ℕ) : Type 0 where
  pub deep : ℕ
  pub to : ℕ
  pub formula : Formula
  pub stands : Stands s kind deep p to formula
  pub fits : n + marks_long formula ≤ room

-- what a reader answers and leaves for a phrase that says v up to place q: behind the n marks that stood its marks stand
pub record Wrote (s : List ℕ) (n q : ℕ) (v : Formula) (old : List ℕ) (r : Read) (new : List ℕ) : Type 0 where
  pub at : r.at ≡ q
  pub marked : r.marked ≡ n + marks_long v
  pub marks : (to : ℕ) (columns : List Spot) → Words s columns_from to columns → length columns ≤ 16
      → take r.marked new ≡ take n old ++ marks_in columns v

-- for the phrase that stands there
abbrev pub Marked : List ℕ → Kind → ℕ → ℕ → List ℕ → Read → List ℕ → Type 0
Marked s kind p n old r new = (deep q : ℕ) (v : Formula) → Stands s kind deep p q v → Wrote s n q v old r new
