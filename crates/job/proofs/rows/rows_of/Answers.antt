-- `job::rows::rows_of` meets its contract. The invariant: the first k needs, which end before `from`, are laid out. Assumes nothing.
use Prim.Native.Nat.{◌<◌}
use native.Mathlib.Omega.{arith}
use lib.ListN.{length, length-set}
use borrow.Author.Tests.{ltb-true, ltb-false}
use Rattle.rules.proofs.Marks.{before_within}
use Rattle.job.specs.Rows.{empty_row}
use Rattle.job.proofs.LaidRows.{laid_none, laid_more, laid_full, laid_all}
use Rattle.std.proofs.lemmas.List.{set-get_or}
use Rattle.std.proofs.Common.{rules, [], ◌∙◌}
use Rattle.job.proofs.rows.rows_of.Goals as goal

pub loop-row-init : goal.loop-row-init
unfolding empty_row
loop-row-init c = (search rules, laid_none _)

pub loop-row-preserved : goal.loop-row-preserved
loop-row-preserved c =
    let l = c.loop-row in
    let e = c.end_of_need-to.ensures in
    let marks = c.args.marks.now in
    let more : l.from < length marks = omega (arith, ltb-true) in
    (simp length-set l.invariant.0, laid_more l.invariant.1 more c.loop-row-test.true e c.row_of.ensures)

pub returns-then-marks-from : goal.returns-then-marks-from
returns-then-marks-from c =
    let l = c.loop-row in
    set-get_or l.row-items l.row-index [] ∙ laid_all l.invariant.1 (omega (arith, ltb-false))

pub returns-after-loop-row : goal.returns-after-loop-row
returns-after-loop-row c = laid_full c.loop-row.invariant.1 c.loop-row-test.false

pub slice_bounds-row_of-end : goal.slice_bounds-row_of-end
slice_bounds-row_of-end c =
    let within = before_within c.args.marks.now c.loop-row.from in
    omega (arith, c.end_of_need-to.ensures, within (omega arith))
