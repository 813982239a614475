-- What the parts read from a text come to, and the ways in which the call ends. Assumes nothing.
use mathlib.Core.Path.{◌≡◌, refl, sym, ap, ◌∙◌}
use mathlib.Core.Bool.{false}
use mathlib.Core.List.{List, []}
use Rattle.std.specs.Prelude.{Ok, Err}
use Rattle.rules.proofs.Options.{None, Some, some-injective}
use Prim.Native.Nat.{ℕ, ◌≤◌, ◌<◌}
use native.Mathlib.Omega.{arith}
use lib.ListN.{length, take}
use Rattle.rules.specs.Sets.{most_columns}
use Rattle.rules.specs.Numbers.{Numbers, unfit, most_forbidden}
use Rattle.rules.specs.Refusals.{text_too_long, text_not_of_form}
use Rattle.rules.specs.Signs.{forbid_key}
use Rattle.rules.specs.Names.{Spot}
use Rattle.rules.specs.Phrases.{Formula}
use Rattle.rules.specs.Texts.{Line, Sheet, OfForm, StopsAt}
use Rattle.rules.specs.Sheets.{sheet_fault, marks_of, numbers_of, names_of}
use Rattle.rules.specs.Readings.{most_bytes, refused, reading_of, too_long, not_of_form, of_form}
use Rattle.rules.proofs.MarkedNeeds.{length_lines}
use Rattle.rules.proofs.Sheets.{counts, sheet_fit}
use Rattle.rules.proofs.Readings.{reading_taken, reading_refused}
use Rattle.job.specs.declared.Job.{Job}
use Rattle.job.specs.Refusals.{refusal_at}
use Rattle.job.specs.Records.{job_with, loaded}
use Rattle.naming.specs.Words.{Words, Rows, columns_from}
use Rattle.naming.proofs.Laid.{laid_columns}
use Rattle.job.specs.declared.refusals.Fault.{Fault}
use Rattle.faults.specs.declared.sections.Places.{Places}
use Rattle.faults.specs.Kinds.{Sectioned}
use Rattle.faults.proofs.Parts.{forbid_rows}
use Rattle.text.specs.declared.table.Table.{Table}
use Rattle.text.specs.Tables.{Tabled}
use Rattle.text.specs.Built.{SetsWritten, NeedLines, Markable, MarksWritten}
use Rattle.text.specs.declared.JobRead.{JobRead}
use Rattle.text.specs.Promises.{read_of, Takes, in_numbers}

loaded_job : (q : Numbers) → unfit q ≡ false → loaded q ≡ Some (job_with q)
unfolding loaded
loaded_job q e = rw e

module _ {s : List ℕ} {sheet : Sheet} (form : OfForm s sheet) (right : sheet_fault sheet ≡ None) where
  few : length sheet.columns ≤ most_columns
  few = (counts s sheet form right).few_columns

  room : length (marks_of [] sheet.needs) ≤ 512
  room =
      let count = counts s sheet form right in
      omega (arith, length_lines [] sheet.needs count.few_in_needs, count.few_needs)

  module _ {places : Places} (at : Sectioned s sheet form places) where
    -- 512 places are enough for the marks
    pub markable : Markable s places.needs 512
    markable = rw at.needs (record { to = form.end_from; lines = sheet.needs; stands = form.needs; fits = room })

    -- all sets are read
    pub sets_read : {count : ℕ} {new : List ℕ}
        → ((q to : ℕ) (columns : List Spot) (rows : List (Line (List Spot))) → Words s columns_from q columns → length columns ≤ most_columns
        → Rows s forbid_key places.forbids to rows → length rows ≤ most_forbidden → SetsWritten columns rows count new)
        → SetsWritten sheet.columns sheet.forbids count new
    sets_read f = f _ _ sheet.columns sheet.forbids (laid_columns form) few (forbid_rows form at) (counts s sheet form right).few_forbids

    -- and fill no more than 32 places
    pub sets_few : {count : ℕ} {new : List ℕ}
        → ((q to : ℕ) (columns : List Spot) (rows : List (Line (List Spot))) → Words s columns_from q columns → length columns ≤ most_columns
        → Rows s forbid_key places.forbids to rows → length rows ≤ most_forbidden → SetsWritten columns rows count new)
        → count ≤ most_forbidden
    sets_few f = omega (arith, (sets_read f).many, (counts s sheet form right).few_forbids)

    -- all marks are read
    pub marks_read : {count : ℕ} {new : List ℕ}
        → ((q : ℕ) (lines : List (Line Formula)) → NeedLines s places.needs q lines → MarksWritten s lines count new)
        → MarksWritten s sheet.needs count new
    marks_read f = f form.end_from sheet.needs (rw at.needs form.needs)

    -- and fill no more than 512 places
    pub marks_few : {count : ℕ} {new : List ℕ}
        → ((q : ℕ) (lines : List (Line Formula)) → NeedLines s places.needs q lines → MarksWritten s lines count new) → count ≤ 512
    marks_few f = omega (arith, (marks_read f).many, room)

  -- the parts read are the numbers of the text's job
  numbers_read : {n many marked : ℕ} {sets marks : List ℕ} → n ≡ length sheet.columns → SetsWritten sheet.columns sheet.forbids many sets
      → MarksWritten s sheet.needs marked marks → record { columns = n; forbidden = take many sets; marks = take marked marks } ≡ numbers_of sheet
  unfolding numbers_of
  numbers_read counted written laid-marks = rw (counted, written.sets, laid-marks.marks form.columns_to sheet.columns (laid_columns form) few)

  module _ {table : Table} {sets marks : List ℕ} {many marked : ℕ}
      (all : (q : ℕ) (columns : List Spot) → Words s columns_from q columns → length columns ≤ most_columns → Tabled columns table)
      (written : SetsWritten sheet.columns sheet.forbids many sets) (laid-marks : MarksWritten s sheet.needs marked marks) where
    -- they are fit
    pub numbers_loaded : loaded (record { columns = table.columns; forbidden = take many sets; marks = take marked marks }) ≡ Some (job_with (numbers_of sheet))
    numbers_loaded =
        let tabled = all _ sheet.columns (laid_columns form) few in
        ap loaded (numbers_read tabled.many written laid-marks) ∙ loaded_job (numbers_of sheet) (sheet_fit s sheet form right)

    -- and with the names they are the answer
    pub read_whole : {job : Job} → loaded (record { columns = table.columns; forbidden = take many sets; marks = take marked marks }) ≡ Some job
        → in_numbers (Ok (record { job = job; names = table.names })) ≡ read_of (reading_of sheet)
    unfolding names_of
    read_whole {job} e =
        let tabled = all _ sheet.columns (laid_columns form) few in
        let same : job ≡ job_with (numbers_of sheet) = some-injective job (job_with (numbers_of sheet)) (sym e ∙ numbers_loaded) in
        rw (reading_taken sheet right, same, tabled.names)

-- ---- the ways of the call

-- a text over 8,192 bytes
pub too_long_takes : {s : List ℕ} → most_bytes < length s → Takes s (read_of (refused text_too_long most_bytes))
too_long_takes h = record { reading = refused text_too_long most_bytes; reads = too_long h; answered = refl }

-- a text not of the form
pub stops_takes : {s : List ℕ} {p : ℕ} → length s ≤ most_bytes → StopsAt s p → Takes s (read_of (refused text_not_of_form p))
stops_takes {p} h stops = record { reading = refused text_not_of_form p; reads = not_of_form h stops; answered = refl }

-- a text with a fault
pub fault_takes : {s : List ℕ} (sheet : Sheet) (f : Fault) → length s ≤ most_bytes → OfForm s sheet → Some (refusal_at f) ≡ sheet_fault sheet
    → Takes s (in_numbers (Err f))
fault_takes sheet f h form is =
    record {
      reading = reading_of sheet;
      reads = of_form sheet h form;
      answered = ap read_of (sym (reading_refused sheet (refusal_at f) (sym is)));
    }

-- a text without one
pub right_takes : {s : List ℕ} (sheet : Sheet) (read : JobRead) → length s ≤ most_bytes → OfForm s sheet → in_numbers (Ok read) ≡ read_of (reading_of sheet)
    → Takes s (in_numbers (Ok read))
right_takes sheet read h form e = record { reading = reading_of sheet; reads = of_form sheet h form; answered = e }
