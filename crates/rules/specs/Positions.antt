-- Where a place of a text is for a person who looks at it: in which line, and at which byte of the line, both counted from 1; and where lines begin.
use Rattle.std.specs.Prelude.{Bool, true, cond, List, [], ◌∷◌, ℕ, zero, suc, ◌+◌, ◌-◌, eqb, take}
use Rattle.rules.specs.Lists.{keep, up_from}
use Rattle.rules.specs.Signs.{byte_at, line_end}

pub record Position : Type 0 where
  pub line : ℕ
  pub column : ℕ

-- behind one byte more
unfoldable pub behind : Position → ℕ → Position
behind at b = cond (eqb b line_end) (record { line = at.line + 1; column = 1 }) (record { line = at.line; column = at.column + 1 })

-- behind these bytes
unfoldable pub behind_all : Position → List ℕ → Position
behind_all at [] = at
behind_all at (b ∷ bytes) = behind_all (behind at b) bytes

-- of a place; a place past the end is the end
unfoldable pub position_of : List ℕ → ℕ → Position
position_of s place = behind_all (record { line = 1; column = 1 }) (take place s)

-- a line begins at the first place, and behind every line's end
unfoldable pub line_begins : List ℕ → ℕ → Bool
line_begins s zero = true
line_begins s (suc p) = eqb (byte_at s p) line_end

-- the places from place p to before place q where lines begin
unfoldable pub line_starts : List ℕ → ℕ → ℕ → List ℕ
line_starts s p q = keep (line_begins s) (up_from p (q - p))
