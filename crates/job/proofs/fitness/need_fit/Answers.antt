-- `job::fitness::need_fit` meets its contract. The invariant: whether the need is fit follows from what is known after i marks. Assumes nothing.
use mathlib.Core.Path.{sym, ◌∙◌}
use Prim.Native.Nat.{◌≤◌}
use native.Mathlib.Omega.{arith}
use lib.Dec.{ltb}
use lib.ListN.{get_or}
use borrow.Author.Tests.{ne_eqb}
use Rattle.rules.proofs.Marks.{join_test, not_join}
use Rattle.job.proofs.Findings.{left_start, left_unfit, left_few, left_join, left_column, left_end, one_most}
use Rattle.std.proofs.Common.{rules}
use Rattle.job.proofs.fitness.need_fit.Goals.{then-mark-eq-OR_MARK+else-operands-lt2, else-mark-eq-OR_MARK}
use Rattle.job.proofs.fitness.need_fit.Goals as goal

pub loop-mark-init : goal.loop-mark-init
loop-mark-init c = (search rules, search rules, left_start _ _)

pub returns-then-mark_unfit : goal.returns-then-mark_unfit
returns-then-mark_unfit c =
    let l = c.loop-mark in
    sym (left_unfit l.invariant.2 c.loop-mark-test.true (sym c.mark_unfit.ensures ∙ c.if-mark_unfit.true))

pub returns-then-operands-lt2 : goal.returns-then-operands-lt2
returns-then-operands-lt2 c =
    let l = c.loop-mark in
    let more = c.loop-mark-test.true in
    sym (left_few l.invariant.2 more (join_test _ c.if-mark-eq-OR_MARK.either) c.if-operands-lt2.true)

pub loop-mark-preserved : goal.loop-mark-preserved
loop-mark-preserved c =
    let l = c.loop-mark in
    let more = c.loop-mark-test.true in
    let fit = sym c.mark_unfit.ensures ∙ c.if-mark_unfit.false in
    let few : c.column_marks-named.result ≤ 1 = rw c.column_marks-named.ensures (one_most (ltb (get_or c.args.need.now l.mark-index 0) 16)) in
    elim c.if-mark-eq-OR_MARK.branch [
      | then-mark-eq-OR_MARK+else-operands-lt2 w ↦ (
        omega arith,
        omega arith,
        rw (c.column_marks-named.ensures, w.operands-is)
            (left_join l.invariant.2 more fit (join_test _ w.if-mark-eq-OR_MARK.either) w.if-operands-lt2.false),
      )
      | else-mark-eq-OR_MARK w ↦ (
        omega arith,
        omega arith,
        rw (c.column_marks-named.ensures, w.operands-is)
            (left_column l.invariant.2 more fit (not_join _ w.if-mark-eq-OR_MARK.false.0 w.if-mark-eq-OR_MARK.false.1)),
      )
    ]

pub returns-then-operands-eq1 : goal.returns-then-operands-eq1
returns-then-operands-eq1 c = rw c.if-operands-eq1.true at (sym (left_end c.loop-mark.invariant.2 c.loop-mark-test.false))

pub returns-else-operands-eq1 : goal.returns-else-operands-eq1
returns-else-operands-eq1 c =
    let l = c.loop-mark in
    let other = ne_eqb l.operands 1 c.if-operands-eq1.false in
    rw other (sym (rw other at (left_end l.invariant.2 c.loop-mark-test.false)))
