-- `job::rows::row_of` meets its contract. Assumes nothing.
use Rattle.job.specs.Rows.{row_of, empty_row}
use Rattle.job.proofs.rows.row_of.Goals as goal

pub returns : goal.returns
unfolding row_of empty_row
returns c = c.write.ensures
