-- What an answer refuses, in the words of the rules.
use Rattle.std.specs.Prelude.{Result, Ok, Err, Option, None, Some}
use Rattle.rules.specs.Sheets.{Refusal as Refused}
use Rattle.job.specs.declared.refusals.Fault.{Fault}
use Rattle.job.specs.Refusals.{refusal_at}

-- a refusal's number and place
abbrev pub refusal_in : Result (Unit {0}) Fault → Option Refused
refusal_in (Ok x) = None
refusal_in (Err f) = Some (refusal_at f)
