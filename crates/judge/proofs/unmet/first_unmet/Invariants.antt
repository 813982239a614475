-- `judge::unmet::first_unmet` meets its contract. Assumes nothing.
use mathlib.Core.Path.{◌≡◌}
use mathlib.Core.Bool.{not}
use mathlib.Core.List.{List}
use lib.ListN.{length}
use Rattle.rules.specs.Needs.{Need, column}
use Rattle.rules.specs.Splits.{met}
use Rattle.rules.proofs.Searches.{NoneBefore}
use Rattle.job.specs.Rows.{StandFor}
use Rattle.judge.proofs.unmet.first_unmet.Given as goal

abbrev pub invariant-loop-k : goal.invariant-loop-k
invariant-loop-k l =
    (rules : List Need) → length rules ≡ length l.rows → StandFor l.rows rules → NoneBefore (λ v. not (met l.split v)) (column 0) rules l.k
