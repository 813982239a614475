-- `job::fitness::mark_unfit` meets its contract. Assumes nothing.
use borrow.Author.Tests.{lt-ltb, le-ltb}
use Rattle.rules.specs.Numbers.{mark_unfit}
use Rattle.job.proofs.fitness.mark_unfit.Goals as goal

pub returns-then-mark-gt-END_MARK : goal.returns-then-mark-gt-END_MARK
unfolding mark_unfit
returns-then-mark-gt-END_MARK c = rw (lt-ltb 18 c.args.mark c.if-mark-gt-END_MARK.true)

pub returns-then-mark-lt-AND_MARK : goal.returns-then-mark-lt-AND_MARK
unfolding mark_unfit
returns-then-mark-lt-AND_MARK c =
    let mark = c.args.mark in rw (le-ltb 18 mark c.if-mark-gt-END_MARK.false, lt-ltb mark 16 c.if-mark-lt-AND_MARK.true)

pub returns-else-mark-lt-AND_MARK : goal.returns-else-mark-lt-AND_MARK
unfolding mark_unfit
returns-else-mark-lt-AND_MARK c =
    let mark = c.args.mark in rw (le-ltb 18 mark c.if-mark-gt-END_MARK.false, le-ltb mark 16 c.if-mark-lt-AND_MARK.false)
