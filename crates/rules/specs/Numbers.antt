-- Jobs as numbers, and which numbers are unfit. Each clause of 01's list has its own name; the numbers are unfit exactly if one of them holds.
use Rattle.std.specs.Prelude.{Bool, true, false, not, cond, ◌&&◌, ◌||◌, List, [], ◌∷◌, ℕ, eqb, ltb, leb, length}
use Rattle.rules.specs.Options.{Option, None, Some, option_map}
use Rattle.rules.specs.Lists.{any_of, keep}
use Rattle.rules.specs.Sets.{most_columns, within}
use Rattle.rules.specs.Marks.{and_mark, end_mark, rows, operands_of, need_of, needs_of}
use Rattle.rules.specs.Needs.{Need}
use Rattle.rules.specs.Jobs.{Job}

pub record Numbers : Type 0 where
  pub columns : ℕ
  pub forbidden : List ℕ
  pub marks : List ℕ

-- "Forbidden sets 0 to 32. Needs 0 to 8. Column marks in a need 1 to 32."
abbrev pub most_forbidden : ℕ
most_forbidden = 32

abbrev pub most_needs : ℕ
most_needs = 8

abbrev pub most_column_marks : ℕ
most_column_marks = 32

-- "columns are 0 or over 16"
unfoldable pub columns_unfit : ℕ → Bool
columns_unfit n = eqb n 0 || ltb most_columns n

-- "over 32 sets"
unfoldable pub sets_too_many : List ℕ → Bool
sets_too_many sets = ltb most_forbidden (length sets)

-- "a set is 0 or names a column that doesn't exist"
unfoldable pub set_unfit : ℕ → ℕ → Bool
set_unfit n s = eqb s 0 || not (within n s)

-- "the marks are not whole needs each closed by 18": there are marks, and the last one is no 18
unfoldable pub unclosed : List ℕ → Bool
unclosed [] = false
unclosed (m ∷ []) = not (eqb m end_mark)
unclosed (m ∷ k ∷ marks) = unclosed (k ∷ marks)

-- "a need has no mark"
unfoldable pub markless : List ℕ → Bool
markless [] = true
markless (m ∷ row) = false

module _ {A : Type 0} where
  -- there is nothing
  unfoldable pub absent : Option A → Bool
  absent None = true
  absent (Some a) = false

-- "has a join with fewer than two operands before it"
unfoldable pub joins_too_few : List ℕ → Bool
joins_too_few row = absent (operands_of row [])

-- "doesn't leave exactly one operand"
unfoldable pub leaves_other : List ℕ → Bool
leaves_other row = absent (need_of row)

-- "a mark is over 18 or names a missing column"
unfoldable pub mark_unfit : ℕ → ℕ → Bool
mark_unfit n m = ltb end_mark m || (ltb m and_mark && leb n m)

-- "over 32 column marks in a need"
unfoldable pub column_marks_too_many : List ℕ → Bool
column_marks_too_many row = ltb most_column_marks (length (keep (λ m. ltb m and_mark) row))

-- one of the four clauses on a single need holds
unfoldable pub need_unfit : List ℕ → Bool
need_unfit row = markless row || joins_too_few row || leaves_other row || column_marks_too_many row

-- "over 8 needs"
unfoldable pub needs_too_many : List (List ℕ) → Bool
needs_too_many needs = ltb most_needs (length needs)

-- "The numbers are unfit exactly if"
unfoldable pub unfit : Numbers → Bool
unfit q =
    columns_unfit q.columns
    || sets_too_many q.forbidden
    || any_of (set_unfit q.columns) q.forbidden
    || unclosed q.marks
    || any_of need_unfit (rows q.marks)
    || any_of (mark_unfit q.columns) q.marks
    || needs_too_many (rows q.marks)

-- the job that fit numbers stand for; unfit numbers stand for none
unfoldable pub job_of : Numbers → Option Job
job_of q =
    cond (unfit q) None
    (option_map (λ (needs : List Need). record { columns = q.columns; forbidden = q.forbidden; needs = needs }) (needs_of (rows q.marks)))
