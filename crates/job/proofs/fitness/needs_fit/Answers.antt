-- `job::fitness::needs_fit` meets its contract. The invariant: how many needs there are follows from what is known after `count` needs. Assumes nothing.
use mathlib.Core.Path.{sym, ◌∙◌}
use native.Mathlib.Omega.{arith}
use borrow.Author.Tests.{eqb-false}
use Rattle.rules.proofs.Marks.{before_within}
use Rattle.job.proofs.Findings.{past_none, past_all, past_unclosed, past_full, past_unfit, past_next}
use Rattle.std.proofs.Common.{rules}
use Rattle.job.proofs.fitness.needs_fit.Goals.{then-to-marks-via-then-to-marks, then-to-marks-via-else-to-marks+then-count-eq-MOST_NEEDS, then-to-marks-via-else-to-marks+else-count-eq-MOST_NEEDS+then-not-need_fit}
use Rattle.job.proofs.fitness.needs_fit.Goals as goal

pub loop-from-init : goal.loop-from-init
loop-from-init c = (search rules, past_none _ _)

pub returns-then-to-marks : goal.returns-then-to-marks
returns-then-to-marks c =
    let e = c.end_of_need-to.ensures in
    let l = c.loop-from in
    let h = c.loop-from-test.true in
    elim c.then-to-marks.branch [
      | then-to-marks-via-then-to-marks w ↦ sym (past_unclosed l.invariant.1 h e w.if-to-marks.true)
      | then-to-marks-via-else-to-marks+then-count-eq-MOST_NEEDS w ↦ sym (past_full l.invariant.1 h e w.if-count-eq-MOST_NEEDS.true)
      | then-to-marks-via-else-to-marks+else-count-eq-MOST_NEEDS+then-not-need_fit w ↦
          sym (past_unfit l.invariant.1 h e (sym w.need_fit.ensures ∙ w.if-not-need_fit.true))
    ]

pub loop-from-preserved : goal.loop-from-preserved
loop-from-preserved c =
    let e = c.end_of_need-to.ensures in
    let l = c.loop-from in
    let h = c.loop-from-test.true in
    let inside = c.if-to-marks.false in
    (omega (arith, eqb-false), past_next l.invariant.1 h e inside (sym c.need_fit.ensures ∙ c.if-not-need_fit.false))

pub returns : goal.returns
returns c = let l = c.loop-from in sym (past_all l.invariant.1 c.loop-from-test.false l.invariant.0)

pub slice_bounds-need_fit-end : goal.slice_bounds-need_fit-end
slice_bounds-need_fit-end c =
    let within = before_within c.args.marks.now c.loop-from.from in
    omega (arith, c.end_of_need-to.ensures, within (omega arith))
