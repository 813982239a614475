-- `job::rows::end_of_need` meets its contract. The invariant: the first end mark from here on is the first from the start on. Assumes nothing.
use mathlib.Core.Path.{ap}
use native.Mathlib.Omega.{arith}
use lib.ListN.{length}
use Rattle.rules.proofs.Marks.{before_here, before_later, before_past}
use Rattle.job.proofs.rows.end_of_need.Goals as goal

pub returns-then-marks-at-eq-END_MARK : goal.returns-then-marks-at-eq-END_MARK
returns-then-marks-at-eq-END_MARK c =
    let l = c.loop-at in
    let marks = c.args.marks.now in
    omega (arith, l.invariant.1, ap length (before_here marks l.at c.loop-at-test.true c.if-marks-at-eq-END_MARK.true))

pub loop-at-preserved : goal.loop-at-preserved
loop-at-preserved c =
    let l = c.loop-at in
    let marks = c.args.marks.now in
    (omega arith, omega (arith, l.invariant.1, ap length (before_later marks l.at c.loop-at-test.true c.if-marks-at-eq-END_MARK.false)))

pub returns : goal.returns
returns c =
    let l = c.loop-at in
    omega (arith, l.invariant.1, ap length (before_past c.args.marks.now l.at c.loop-at-test.false))
