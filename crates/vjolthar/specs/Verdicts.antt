-- The judge's answer as four numbers.
use Rattle.std.specs.Prelude.{◌≡◌, List, ℕ}
use Rattle.rules.specs.Numbers.{Numbers}
use Rattle.rules.specs.Refusals.{numbers_unfit}
use Rattle.rules.specs.Verdicts.{Verdict, unfit_job, improper, forbids, shares, unmet, right, judged}
use Rattle.vjolthar.specs.declared.verdicts.Told.{Told}

-- the refusal, the kind of the fault, counted from 1 in the order of 01's sentence, and its values; what an answer lacks is 0
abbrev pub told_of : Verdict → Told
told_of unfit_job = record { refusal = numbers_unfit; fault = 0; first = 0; second = 0 }
told_of (improper i) = record { refusal = 0; fault = 1; first = i; second = 0 }
told_of (forbids i j) = record { refusal = 0; fault = 2; first = i; second = j }
told_of (shares i j) = record { refusal = 0; fault = 3; first = i; second = j }
told_of (unmet k) = record { refusal = 0; fault = 4; first = k; second = 0 }
told_of right = record { refusal = 0; fault = 0; first = 0; second = 0 }

-- the promise of `vjolthar_judge`
abbrev pub Tells : Numbers → List ℕ → Told → Type 0
Tells q split answer = answer ≡ told_of (judged q split)
