-- The promise of the call, as a relation of what is given and lent, what is answered, and what the slice holds then.
use Rattle.std.specs.Prelude.{◌≡◌, List, ℕ, length, Result, Ok, Err}
use Rattle.rules.specs.Numbers.{Numbers}
use Rattle.rules.specs.Plannings.{Planning, refused, planned, planning, extracts_after}
use Rattle.job.specs.Refusals.{number_of}
use Rattle.job.specs.declared.refusals.Refusal.{Refusal}

-- an answer in numbers: the refusal's number, or 0 and then how many extracts there are
pub record Planned : Type 0 where
  pub refusal : ℕ
  pub count : ℕ

-- "With refusals 7, 8 and 9 every other number of the answer (root, counts, k) is 0."
abbrev pub planned_of : Planning → Planned
planned_of (refused number) = record { refusal = number; count = 0 }
planned_of (planned split) = record { refusal = 0; count = length split }

-- the promise of `plan`
pub record Plans (q : Numbers) (old : List ℕ) (answer : Planned) (new : List ℕ) : Type 0 where
  pub answered : answer ≡ planned_of (planning q old)
  pub extracts : new ≡ extracts_after (planning q old) old

-- what is answered, in numbers; no two answers have the same
abbrev pub in_numbers : Result ℕ Refusal → Planned
in_numbers (Ok count) = record { refusal = 0; count = count }
in_numbers (Err refusal) = record { refusal = number_of refusal; count = 0 }
