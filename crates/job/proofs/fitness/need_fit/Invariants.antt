-- `job::fitness::need_fit` meets its contract. The invariant: whether the need is fit follows from what is known after so many marks. Assumes nothing.
use Rattle.std.proofs.Common.{◌≤◌}
use Rattle.job.proofs.Findings.{Left}
use Rattle.job.proofs.fitness.need_fit.Given as goal

abbrev pub invariant-loop-mark : goal.invariant-loop-mark
invariant-loop-mark l =
    (l.operands ≤ l.mark-index) × (l.named ≤ l.mark-index) × Left l.columns l.need l.operands l.named l.mark-index
