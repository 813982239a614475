-- What a walk over the cases of an input gives step by step.
use Rattle.std.specs.Prelude.{◌≡◌, List, ℕ, ◌+◌, ◌<◌, ◌==◌, [], Option, None, Some, unwrap_or, length, take, drop}
use Rattle.std.specs.List.{position}
use Rattle.spelt.specs.declared.cases.Case.{Case}
use Rattle.spelt.specs.declared.cases.Cases.{Cases}

-- how many bytes stand before the first that is this one, or all where none is
abbrev pub before : ℕ → List ℕ → ℕ
before byte bytes = unwrap_or (position (λ other. other == byte) bytes) (length bytes)

-- the name is what stands before the first colon, and the spelling what stands behind it and the byte after it
pub record Begins (lines : List ℕ) (case : Case) : Type 0 where
  pub name : case.name.now ≡ take (before 58 lines) lines
  pub spelling : case.spelling.now ≡ drop (before 58 lines + 2) lines

-- the case at the begin of the lines is given, and the walk goes on behind the first line end
pub record PassesCase (old : Cases) (case : Case) (new : Cases) : Type 0 where
  pub some : 0 < length old.lines.now
  pub begins : Begins old.lines.now case
  pub rest : new.lines.now ≡ drop (before 10 old.lines.now + 1) old.lines.now

-- the next case is given; or no byte is left, and the walk stays
abbrev pub GivesCase : Cases → Option Case → Cases → Type 0
GivesCase old None new = (old.lines.now ≡ []) × (new ≡ old)
GivesCase old (Some case) new = PassesCase old case new
