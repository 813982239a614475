-- `vjolthar::vjolthar_read` meets its contract. Assumes nothing.
use Rattle.std.proofs.Common.{sym, ◌∙◌}
use Rattle.rules.specs.Marks as marks
use Rattle.job.specs.Records as records
use Rattle.vjolthar.specs.Handed.{not_handed, numbers_of}
use Rattle.vjolthar.proofs.Handing.{short_hands, hands_read}
use Rattle.vjolthar.proofs.vjolthar_read.Goals as goal

pub returns-then-too_short : goal.returns-then-too_short
unfolding not_handed
returns-then-too_short c = rw c.from.ensures (short_hands _ _ (sym c.too_short.ensures ∙ c.if-too_short.true))

pub returns-in-Ok : goal.returns-in-Ok
unfolding numbers_of
returns-in-Ok c =
    let handed = c.hand_out.ensures in
    hands_read _ _ (sym c.too_short.ensures ∙ c.if-too_short.false) c.in-Ok.ensures handed.forbidden handed.marks handed.names

-- of a job that is none all numbers are 0
pub returns-in-Err : goal.returns-in-Err
unfolding numbers_of records.no_job records.job_with marks.rows
returns-in-Err c =
    let nothing = c.nothing_read.ensures in
    let handed = c.hand_out-in-Err.ensures in
    rw c.from-in-Err.ensures
    (hands_read _ _ (sym c.too_short.ensures ∙ c.if-too_short.false) c.in-Err.ensures (rw nothing.0 at handed.forbidden) (rw nothing.0 at handed.marks)
    (rw nothing.1 at handed.names))
