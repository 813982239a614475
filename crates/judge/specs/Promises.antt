-- The judge's promise as a relation of what is given and what is answered.
use Rattle.std.specs.Prelude.{◌≡◌, List, ℕ}
use Rattle.rules.specs.Numbers.{Numbers}
use Rattle.rules.specs.Verdicts.{judged}
use Rattle.judge.specs.declared.Verdict.{Verdict}
use Rattle.judge.specs.Answers.{verdict_of}

-- the promise allows this answer for these numbers and this split
abbrev pub Judges : Numbers → List ℕ → Verdict → Type 0
Judges q split answer = verdict_of answer ≡ judged q split
