-- `job::fitness::needs_fit` meets its contract. The invariant: how many needs there are follows from what is known after `count` needs. Assumes nothing.
use Prim.Native.Nat.{◌≤◌, ◌-◌}
use lib.ListN.{length}
use Rattle.job.proofs.Findings.{Past}
use Rattle.job.proofs.fitness.needs_fit.Given as goal

abbrev pub invariant-loop-from : goal.invariant-loop-from
invariant-loop-from l = (l.count ≤ 8) × Past l.columns l.marks l.count l.from

abbrev pub decreases-loop-from : goal.decreases-loop-from
decreases-loop-from l = length l.marks - l.from
