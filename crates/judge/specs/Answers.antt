-- What the judge's answers say, in the words of the rules.
use Rattle.std.specs.Prelude.{ℕ}
use Rattle.rules.specs.Options.{Option, option_map}
use Rattle.rules.specs.Verdicts.{Verdict as Said, unfit_job, improper, forbids, shares, unmet, right, Places}
use Rattle.judge.specs.declared.Verdict.{Verdict}
use Rattle.judge.specs.declared.Verdict.TheVariants.{Unfit, Improper, Forbids, Shares, Unmet, Right}

-- the two places that a search found
abbrev pub places_of : Option (ℕ × ℕ) → Option Places
places_of = option_map (λ found. record { i = found.0; j = found.1 })

-- the answer of the rules that the judge's answer stands for. Its number is `refusal_of`, its values are `values_of`
abbrev pub verdict_of : Verdict → Said
verdict_of Unfit = unfit_job
verdict_of (Improper i) = improper i
verdict_of (Forbids i j) = forbids i j
verdict_of (Shares i j) = shares i j
verdict_of (Unmet k) = unmet k
verdict_of Right = right
