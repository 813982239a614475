-- What the parts of a job are when they are read from the lines of a text.
use Rattle.std.specs.Prelude.{◌≡◌, List, [], map, ℕ, ◌≤◌, length, take}
use Rattle.rules.specs.Sets.{empty, most_columns}
use Rattle.rules.specs.Signs.{need_key}
use Rattle.rules.specs.Names.{Spot}
use Rattle.rules.specs.Phrases.{Formula, ors, list, most_brackets, Stands}
use Rattle.rules.specs.Texts.{Line, Lines}
use Rattle.rules.specs.Sheets.{set_with, marks_of}
use Rattle.naming.specs.Words.{Words, columns_from}

-- the sets of forbid lines are counted and stand in the first places
pub record SetsWritten (columns : List Spot) (rows : List (Line (List Spot))) (count : ℕ) (new : List ℕ) : Type 0 where
  pub many : count ≡ length rows
  pub sets : take count new ≡ map (λ l. set_with columns empty l.value) rows

-- need lines from place p to before place q; no need line follows
abbrev pub NeedLines : List ℕ → ℕ → ℕ → List (Line Formula) → Type 0
NeedLines s = Lines s need_key (Stands s (list ors) most_brackets)

-- there is room for the marks of the need lines from place p on
pub record Markable (s : List ℕ) (p room : ℕ) : Type 0 where
  pub to : ℕ
  pub lines : List (Line Formula)
  pub stands : NeedLines s p to lines
  pub fits : length (marks_of [] lines) ≤ room

-- the marks of need lines are counted and stand in the first places
pub record MarksWritten (s : List ℕ) (lines : List (Line Formula)) (count : ℕ) (new : List ℕ) : Type 0 where
  pub many : count ≡ length (marks_of [] lines)
  pub marks : (to : ℕ) (columns : List Spot) → Words s columns_from to columns → length columns ≤ most_columns → take count new ≡ marks_of columns lines
