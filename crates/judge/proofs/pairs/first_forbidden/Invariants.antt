-- `judge::pairs::first_forbidden` meets its contract. Assumes nothing.
use mathlib.Core.Path.{◌≡◌}
use Rattle.rules.specs.Jobs.{Job}
use Rattle.rules.proofs.FirstFaults.{SafeBefore}
use Rattle.judge.proofs.pairs.first_forbidden.Given as goal

abbrev pub invariant-loop-i : goal.invariant-loop-i
invariant-loop-i l = (job : Job) → job.forbidden ≡ l.forbidden → SafeBefore job l.split l.i
