-- The refusals as the code has them, in the numbers of the rules.
use Rattle.std.specs.Prelude.{◌≡◌, ℕ, ◌<◌, ◌≤◌, Result, MatchResult}
use Rattle.rules.specs.Refusals.{text_too_long, text_not_of_form, too_many_parts, name_twice, name_unknown, end_number_other}
use Rattle.rules.specs.Refusals.{numbers_unfit, slice_too_short, no_correct_split}
use Rattle.rules.specs.Sheets.{Refusal as Said, refusal}
use Rattle.job.specs.declared.refusals.Refusal.{Refusal}
use Rattle.job.specs.declared.refusals.Refusal.TheVariants.{TextTooLong, TextNotOfForm, TooMany, NameTwice, NameUnknown, EndNumberOther}
use Rattle.job.specs.declared.refusals.Refusal.TheVariants.{NumbersUnfit, SliceTooShort, NoCorrectSplit}
use Rattle.job.specs.declared.refusals.UnknownNumber.{UnknownNumber}
use Rattle.job.specs.declared.refusals.Fault.{Fault}

-- the number that 01's table gives it
abbrev pub number_of : Refusal → ℕ
number_of TextTooLong = text_too_long
number_of TextNotOfForm = text_not_of_form
number_of TooMany = too_many_parts
number_of NameTwice = name_twice
number_of NameUnknown = name_unknown
number_of EndNumberOther = end_number_other
number_of NumbersUnfit = numbers_unfit
number_of SliceTooShort = slice_too_short
number_of NoCorrectSplit = no_correct_split

-- the refusal with this number, or that none has it
abbrev pub Names : ℕ → Result Refusal UnknownNumber → Type 0
Names number r = MatchResult r (λ found. number_of found ≡ number) (λ unknown. (unknown.0 ≡ number) × (1 ≤ number → 9 < number))

-- the refusal of the rules that a fault is
abbrev pub refusal_at : Fault → Said
refusal_at fault = refusal (number_of fault.refusal) fault.place
