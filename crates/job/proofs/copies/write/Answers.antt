-- `job::copies::write` meets its contract. Assumes nothing.
use Rattle.rules.proofs.Written.{written_parts}
use Rattle.job.proofs.copies.write.Goals as goal

pub returns : goal.returns
returns c =
    rw (c.copy_from_slice.ensures.after, c.min-count.ensures) (written_parts c.args.from.now c.args.to.now)
