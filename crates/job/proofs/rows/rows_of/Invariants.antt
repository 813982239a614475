-- `job::rows::rows_of` meets its contract. The invariant: the first k needs, which end before `from`, are laid out. Assumes nothing.
use mathlib.Core.Path.{◌≡◌}
use lib.ListN.{length}
use Rattle.job.proofs.LaidRows.{Laid}
use Rattle.job.proofs.rows.rows_of.Given as goal

abbrev pub invariant-loop-row : goal.invariant-loop-row
invariant-loop-row l = (length l.row-items ≡ 8) × Laid l.marks l.row-items l.from l.row-index
