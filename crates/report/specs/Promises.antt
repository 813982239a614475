-- The promise of the call, as a relation of the text and the page lent, what is answered, and what the page holds then.
use Rattle.std.specs.Prelude.{◌≡◌, cond, List, ℕ, min, ltb, length, Result, Ok, Err}
use Rattle.rules.specs.Lists.{written}
use Rattle.rules.specs.Refusals.{slice_too_short}
use Rattle.rules.specs.Readings.{Reading, Reads}
use Rattle.rules.specs.Pages.{Outcome, refused, released, outcome_of, page, most_page_bytes}
use Rattle.job.specs.Refusals.{number_of}
use Rattle.job.specs.declared.refusals.Fault.{Fault}
use Rattle.writing.specs.Puts.{Puts}
use Rattle.writing.specs.declared.Page.{Page}
use Rattle.report.specs.declared.Reported.{Reported as Answer}

-- an answer in numbers: the refusal's number and place, or 0 and 0; and how many bytes the page has
pub record Reported : Type 0 where
  pub refusal : ℕ
  pub place : ℕ
  pub length : ℕ

-- the numbers of an outcome, with the length of its page
abbrev pub reported_of : Outcome → ℕ → Reported
reported_of (refused number at) bytes = record { refusal = number; place = at; length = bytes }
reported_of (released names split) bytes = record { refusal = 0; place = 0; length = bytes }

-- an outcome's page is written as far as there are places
pub record Prints (o : Outcome) (old : List ℕ) (answer : Reported) (new : List ℕ) : Type 0 where
  pub answered : answer ≡ reported_of o (min (length (page o)) (length old))
  pub printed : new ≡ written (page o) old

-- the answer to an outcome, with the whole page; or 8, with nothing, where a longest page would find no room
abbrev pub answer_of : Outcome → List ℕ → Reported
answer_of o old = cond (ltb (length old) most_page_bytes) (reported_of (refused slice_too_short 0) 0) (reported_of o (length (page o)))

-- what the page then holds: "the rest stays"
abbrev pub page_after : Outcome → List ℕ → List ℕ
page_after o old = cond (ltb (length old) most_page_bytes) old (written (page o) old)

-- the promise of `report`
pub record Reports (s old : List ℕ) (answer : Reported) (new : List ℕ) : Type 0 where
  pub reading : Reading
  pub reads : Reads s reading
  pub answered : answer ≡ answer_of (outcome_of reading) old
  pub printed : new ≡ page_after (outcome_of reading) old

-- the number and the place of a refusal, or 0 and 0
abbrev pub refusal_in : Result (Unit {0}) Fault → ℕ
refusal_in (Ok _) = 0
refusal_in (Err fault) = number_of fault.refusal

abbrev pub place_in : Result (Unit {0}) Fault → ℕ
place_in (Ok _) = 0
place_in (Err fault) = fault.place

-- how a text ends, in numbers, with the length of its page
abbrev pub ended : Result (Unit {0}) Fault → ℕ → Reported
ended outcome bytes = record { refusal = refusal_in outcome; place = place_in outcome; length = bytes }

-- what is answered, in numbers; no two answers have the same
abbrev pub in_numbers : Answer → Reported
in_numbers answer = ended answer.outcome answer.length

-- the page of what the text comes to is put, and so the text ends
pub record Ends (s : List ℕ) (result : Result (Unit {0}) Fault) (before after : Page) : Type 0 where
  pub reading : Reading
  pub reads : Reads s reading
  pub ends : (bytes : ℕ) → ended result bytes ≡ reported_of (outcome_of reading) bytes
  pub puts : Puts (page (outcome_of reading)) before after
