-- `job::rows::end_of_need` meets its contract. The invariant: the first end mark from here on is the first from the start on. Assumes nothing.
use Rattle.std.proofs.Common.{◌≡◌, ◌+◌, ◌≤◌, length, drop}
use Rattle.std.specs.Prelude.{max}
use Rattle.rules.specs.Marks.{before_end}
use Rattle.job.proofs.rows.end_of_need.Given as goal

abbrev pub invariant-loop-at : goal.invariant-loop-at
invariant-loop-at l =
    (l.at ≤ max l.from (length l.marks))
    × (l.at + length (before_end (drop l.at l.marks)) ≡ l.from + length (before_end (drop l.from l.marks)))
