-- The job of a text that was read, and the split of it.
use Rattle.std.specs.Prelude.{◌≡◌, false, List, ℕ, ◌≤◌, length, take, Result, Ok, Err}
use Rattle.rules.specs.Numbers.{Numbers, unfit}
use Rattle.rules.specs.Readings.{Reading, Reads}
use Rattle.rules.specs.Pages.{Outcome, refused, released, outcome_of}
use Rattle.job.specs.Refusals.{number_of}
use Rattle.job.specs.declared.refusals.Fault.{Fault}
use Rattle.job.specs.declared.Job.{Job}
use Rattle.job.specs.Records.{job_with}
use Rattle.report.specs.Naming.{Named}
use Rattle.report.specs.declared.Split.{Split}

-- the job holds fit numbers, each in its place, and 0 in all others
pub record Filled (job : Job) : Type 0 where
  pub numbers : Numbers
  pub fit : unfit numbers ≡ false
  pub holds : job ≡ job_with numbers

-- a split stands over its first places, beside the names of the columns
pub record IsReleased (o : Outcome) (split : Split) : Type 0 where
  pub names : List (List ℕ)
  pub named : Named split.names names
  pub few : split.count ≤ length split.extracts
  pub is : o ≡ released names (take split.count split.extracts)

-- this is the outcome
abbrev pub IsOutcome : Outcome → Result Split Fault → Type 0
IsOutcome o (Ok split) = IsReleased o split
IsOutcome o (Err fault) = o ≡ refused (number_of fault.refusal) fault.place

-- a text comes to this
pub record Comes (s : List ℕ) (answer : Result Split Fault) : Type 0 where
  pub reading : Reading
  pub reads : Reads s reading
  pub outcome : IsOutcome (outcome_of reading) answer
