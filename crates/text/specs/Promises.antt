-- The promise of the call, as a relation of the text and what is answered.
use Rattle.std.specs.Prelude.{◌≡◌, List, [], ℕ, Result, Ok, Err}
use Rattle.rules.specs.Options.{None}
use Rattle.rules.specs.Texts.{Sheet, OfForm}
use Rattle.rules.specs.Sheets.{sheet_fault}
use Rattle.rules.specs.Readings.{Reading, refused, taken, Reads}
use Rattle.job.specs.Records.{no_job, job_with}
use Rattle.job.specs.Refusals.{number_of}
use Rattle.job.specs.declared.Job.{Job}
use Rattle.job.specs.declared.refusals.Fault.{Fault}
use Rattle.text.specs.declared.JobRead.{JobRead}
use Rattle.text.specs.Tables.{name_table}

-- an answer in numbers: the refusal's number and place, or 0, 0; the job, and the names of its columns
pub record Answer : Type 0 where
  pub refusal : ℕ
  pub place : ℕ
  pub job : Job
  pub names : List ℕ

-- "A refused text returns the number, the place and a job with no columns, sets or marks. Every unused place of a job read from text is 0."
abbrev pub read_of : Reading → Answer
read_of (refused number at) = record { refusal = number; place = at; job = no_job; names = name_table [] }
read_of (taken q names) = record { refusal = 0; place = 0; job = job_with q; names = name_table names }

-- the promise of `read`
pub record Takes (s : List ℕ) (answer : Answer) : Type 0 where
  pub reading : Reading
  pub reads : Reads s reading
  pub answered : answer ≡ read_of reading

-- what is answered, in numbers; no two answers have the same
abbrev pub in_numbers : Result JobRead Fault → Answer
in_numbers (Ok read) = record { refusal = 0; place = 0; job = read.job; names = read.names }
in_numbers (Err fault) = record { refusal = number_of fault.refusal; place = fault.place; job = no_job; names = name_table [] }

-- the text is of the form and without a fault
abbrev pub Right : List ℕ → Type 0
Right s = (sheet : Sheet) × OfForm s sheet × (sheet_fault sheet ≡ None)
