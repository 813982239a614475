-- Needs. "Formulas of columns with and, or; no negation, no constants" (000, Definition 2).
use Rattle.std.specs.Prelude.{Bool, ◌&&◌, ◌||◌, ℕ}
use Rattle.rules.specs.Sets.{has}

pub data Need : Type 0 where
  column : ℕ → Need
  both : Need → Need → Need
  either : Need → Need → Need

-- the need is true of a set: read each column as "it is in the set"
unfoldable pub meets : Need → ℕ → Bool
meets (column i) s = has i s
meets (both v w) s = meets v s && meets w s
meets (either v w) s = meets v s || meets w s
