-- What a text of the form comes to: refusal 3, then 4 or 5, then 6, or the numbers of a job and the names of its columns. Wherever 01 asks for the
-- smallest place it is found by going through the text from its beginning; SheetFaults.antt has the sentences that this renders.
use Rattle.std.specs.Prelude.{Bool, cond, List, [], ◌∷◌, ◌++◌, map, ℕ, zero, suc, ◌+◌, ◌^◌, eqb, length, drop}
use Rattle.rules.specs.Options.{Option, None, Some, unwrap_or, option_or, option_map}
use Rattle.rules.specs.Lists.{any_of, first_where, first_of}
use Rattle.rules.specs.Sets.{most_columns, empty, union}
use Rattle.rules.specs.Needs.{Need, column, both, either}
use Rattle.rules.specs.Marks.{and_mark, or_mark, end_mark}
use Rattle.rules.specs.Jobs.{Job}
use Rattle.rules.specs.Numbers.{Numbers, most_forbidden, most_needs, most_column_marks}
use Rattle.rules.specs.Refusals.{too_many_parts, name_twice, name_unknown, end_number_other}
use Rattle.rules.specs.Names.{Spot, same_name}
use Rattle.rules.specs.Phrases.{Formula, named, and_of, or_of, names_in}
use Rattle.rules.specs.Texts.{Line, Sheet}

-- a refusal's number and its place
pub record Refusal : Type 0 where
  pub number : ℕ
  pub place : ℕ

abbrev pub refusal : ℕ → ℕ → Refusal
refusal number place = record { number = number; place = place }

-- ---- 3: "17th column, 33rd forbid, 9th need line, 33rd name in a need"; "first byte of that item (for a line, its key); the smallest"

-- the place of the name after the first k
unfoldable pub name_after : ℕ → List Spot → Option ℕ
name_after k names = option_map (λ x. x.place) (first_of (drop k names))

-- the place of the line after the first k
unfoldable pub line_after : {A : Type 0} → ℕ → List (Line A) → Option ℕ
line_after k lines = option_map (λ l. l.place) (first_of (drop k lines))

-- of need lines of which k may stand: the 33rd name of one of the first k, or the line after them
unfoldable pub needs_over : ℕ → List (Line Formula) → Option ℕ
needs_over k [] = None
needs_over zero (l ∷ lines) = Some l.place
needs_over (suc k) (l ∷ lines) = option_or (name_after most_column_marks (names_in l.value)) (needs_over k lines)

unfoldable pub first_over : Sheet → Option ℕ
first_over sheet =
    option_or (name_after most_columns sheet.columns) (option_or (line_after most_forbidden sheet.forbids) (needs_over most_needs sheet.needs))

-- ---- 4: "a name twice in columns=, or a known name twice in one forbid"; 5: "a name in forbid or need that isn't a column"

-- the column of this name
unfoldable pub column_named : List Spot → List ℕ → Option ℕ
column_named columns name = first_where (λ c. same_name c.name name) columns

-- the name stands among these
unfoldable pub stands_in : List Spot → Spot → Bool
stands_in names x = any_of (λ c. same_name c.name x.name) names

-- the first name at fault, by a test that also sees the names before it
unfoldable pub first_name_fault : (List Spot → Spot → Option ℕ) → List Spot → List Spot → Option Refusal
first_name_fault fault before [] = None
first_name_fault fault before (x ∷ names) =
    option_or (option_map (λ number. refusal number x.place) (fault before x)) (first_name_fault fault (before ++ (x ∷ [])) names)

unfoldable pub column_fault : List Spot → Spot → Option ℕ
column_fault before x = cond (stands_in before x) (Some name_twice) None

unfoldable pub need_fault : List Spot → List Spot → Spot → Option ℕ
need_fault columns before x = cond (stands_in columns x) None (Some name_unknown)

unfoldable pub forbid_fault : List Spot → List Spot → Spot → Option ℕ
forbid_fault columns before x = option_or (need_fault columns before x) (column_fault before x)

-- the first fault in lines of names
unfoldable pub lines_fault : (List Spot → Spot → Option ℕ) → List (List Spot) → Option Refusal
lines_fault fault [] = None
lines_fault fault (names ∷ lines) = option_or (first_name_fault fault [] names) (lines_fault fault lines)

unfoldable pub names_fault : Sheet → Option Refusal
names_fault sheet =
    option_or (first_name_fault column_fault [] sheet.columns)
    (option_or (lines_fault (forbid_fault sheet.columns) (map (λ l. l.value) sheet.forbids))
    (lines_fault (need_fault sheet.columns) (map (λ l. names_in l.value) sheet.needs)))

-- ---- 6: "end= has another number"; "the number of forbid and need lines together"

abbrev pub lines_in : Sheet → ℕ
lines_in sheet = length sheet.forbids + length sheet.needs

unfoldable pub end_fault : Sheet → Option Refusal
end_fault sheet =
    cond (eqb sheet.ended.value (lines_in sheet)) None (Some (refusal end_number_other sheet.ended.place))

-- "Order for text: 1, 2, 3, then 4 or 5 whichever has the smaller place, then 6."
unfoldable pub sheet_fault : Sheet → Option Refusal
sheet_fault sheet = option_or (option_map (refusal too_many_parts) (first_over sheet)) (option_or (names_fault sheet) (end_fault sheet))

-- ---- the job

-- a name's column, 0 where it is unknown
unfoldable pub column_in : List Spot → Spot → ℕ
column_in columns x = unwrap_or (column_named columns x.name) 0

-- the set with the columns of these names too
unfoldable pub set_with : List Spot → ℕ → List Spot → ℕ
set_with columns s [] = s
set_with columns s (x ∷ names) = set_with columns (union s (2 ^ column_in columns x)) names

-- the need that a formula says
unfoldable pub need_in : List Spot → Formula → Need
need_in columns (named x) = column (column_in columns x)
need_in columns (and_of v w) = both (need_in columns v) (need_in columns w)
need_in columns (or_of v w) = either (need_in columns v) (need_in columns w)

-- its marks, "operands before their join"
unfoldable pub marks_in : List Spot → Formula → List ℕ
marks_in columns (named x) = column_in columns x ∷ []
marks_in columns (and_of v w) = marks_in columns v ++ (marks_in columns w ++ (and_mark ∷ []))
marks_in columns (or_of v w) = marks_in columns v ++ (marks_in columns w ++ (or_mark ∷ []))

-- the marks of need lines, each need closed
unfoldable pub marks_of : List Spot → List (Line Formula) → List ℕ
marks_of columns [] = []
marks_of columns (l ∷ lines) = marks_in columns l.value ++ (end_mark ∷ marks_of columns lines)

-- the numbers of a text's job
unfoldable pub numbers_of : Sheet → Numbers
numbers_of sheet =
    record {
      columns = length sheet.columns;
      forbidden = map (λ l. set_with sheet.columns empty l.value) sheet.forbids;
      marks = marks_of sheet.columns sheet.needs;
    }

-- the job that a text says
abbrev pub job_in : Sheet → Job
job_in sheet =
    record {
      columns = length sheet.columns;
      forbidden = map (λ l. set_with sheet.columns empty l.value) sheet.forbids;
      needs = map (λ l. need_in sheet.columns l.value) sheet.needs;
    }

-- the names of its columns
unfoldable pub names_of : Sheet → List (List ℕ)
names_of sheet = map (λ x. x.name) sheet.columns
