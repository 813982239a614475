-- Which faults the names of a section's lines have, and where the sections stand.
use Rattle.std.specs.Prelude.{◌≡◌, List, [], ◌∷◌, ℕ, zero, suc, ◌+◌, length}
use Rattle.rules.specs.Options.{Option, None, Some, option_or}
use Rattle.rules.specs.Numbers.{most_column_marks}
use Rattle.rules.specs.Names.{Spot}
use Rattle.rules.specs.Texts.{Line, Sheet, OfForm}
use Rattle.rules.specs.Sheets.{name_after, column_fault, forbid_fault, need_fault, lines_in}
use Rattle.naming.specs.declared.sections.Section.{Section}
use Rattle.naming.specs.declared.sections.Section.TheVariants.{Columns, Forbid, Need, End}
use Rattle.faults.specs.declared.sections.Walked.{Walked}
use Rattle.faults.specs.declared.sections.Places.{Places}

-- when a name of a section's line is at fault; an end line has none
abbrev pub fault_by : Section → List Spot → List Spot → Spot → Option ℕ
fault_by Columns columns = column_fault
fault_by Forbid columns = forbid_fault columns
fault_by Need columns = need_fault columns
fault_by End columns = λ before x. None

-- of need lines of which k may stand, with their names: the 33rd name of one of the first k, or the line after them
unfoldable pub rows_over : ℕ → List (Line (List Spot)) → Option ℕ
rows_over k [] = None
rows_over zero (l ∷ lines) = Some l.place
rows_over (suc k) (l ∷ lines) = option_or (name_after most_column_marks l.value) (rows_over k lines)

-- the lines of a kind were counted, and their end found
pub record Walks (q : ℕ) (rows : List (Line (List Spot))) (r : Walked) : Type 0 where
  pub lines : r.lines ≡ length rows
  pub to : r.to ≡ q

-- where the lines of each kind begin
pub record Sectioned (s : List ℕ) (sheet : Sheet) (form : OfForm s sheet) (r : Places) : Type 0 where
  pub forbids : r.forbids ≡ form.columns_to + 1
  pub needs : r.needs ≡ form.needs_from
  pub end : r.end ≡ form.end_from
  pub lines : r.lines ≡ lines_in sheet
