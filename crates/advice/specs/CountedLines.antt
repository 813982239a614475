-- How many lines of a text the number at its end has to count: those that begin with the key of a section that it counts.
use Rattle.std.specs.Prelude.{List, ℕ, length}
use Rattle.rules.specs.Lists.{keep}
use Rattle.rules.specs.Positions.{line_starts}
use Rattle.naming.specs.Sections.{counted_at}

-- of the lines that begin from place p to before place q
unfoldable pub counted_in : List ℕ → ℕ → ℕ → ℕ
counted_in s p q = length (keep (counted_at s) (line_starts s p q))

-- of all lines
abbrev pub counted_lines : List ℕ → ℕ
counted_lines s = counted_in s 0 (length s)
