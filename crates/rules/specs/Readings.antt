-- What reading a job text comes to. "Any input at all gets its one determined answer."
use Rattle.std.specs.Prelude.{List, ℕ, ◌<◌, ◌≤◌, length}
use Rattle.rules.specs.Options.{Option-elim}
use Rattle.rules.specs.Numbers.{Numbers}
use Rattle.rules.specs.Refusals.{text_too_long, text_not_of_form}
use Rattle.rules.specs.Texts.{Sheet, OfForm, StopsAt}
use Rattle.rules.specs.Sheets.{sheet_fault, numbers_of, names_of}

-- "Job text at most 8,192 bytes."
abbrev pub most_bytes : ℕ
most_bytes = 8192

-- a refusal's number and place, or the numbers of a job and the names of its columns
pub data Reading : Type 0 where
  refused : ℕ → ℕ → Reading
  taken : Numbers → List (List ℕ) → Reading

-- of a text of the form
unfoldable pub reading_of : Sheet → Reading
reading_of sheet = Option-elim (sheet_fault sheet) (taken (numbers_of sheet) (names_of sheet)) (λ f. refused f.number f.place)

-- of any text. That no text reads in two ways is a law, that each reads in one is the reader's promise
pub data Reads (s : List ℕ) : Reading → Type 0 where
  too_long : most_bytes < length s → Reads s (refused text_too_long most_bytes)
  not_of_form : {p : ℕ} → length s ≤ most_bytes → StopsAt s p → Reads s (refused text_not_of_form p)
  of_form : (sheet : Sheet) → length s ≤ most_bytes → OfForm s sheet → Reads s (reading_of sheet)
