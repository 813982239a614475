-- `needs::met_lanes` meets its contract. Assumes nothing.
use mathlib.Core.Path.{◌≡◌}
use lib.ListN.{get_or}
use native.Mathlib.Omega.{arith}
use Rattle.rules.proofs.Marks.{before_here, before_past, join_test, not_join}
use Rattle.rules.specs.Marks.{end_mark}
use Rattle.needs.proofs.OperandWords.{read_none, read_all, read_column, read_join, read_no_join}
use Rattle.std.proofs.Common.{rules}
use Rattle.needs.proofs.met_lanes.Goals.{in-16+then-count-gt1, in-16+else-count-gt1, in_default, else-loop-mark-test, then-loop-mark-test+in-18}
use Rattle.needs.proofs.met_lanes.Goals as goal

pub loop-mark-init : goal.loop-mark-init
loop-mark-init c = read_none c.args.block c.args.row.now _ (search rules) (search rules)

pub loop-mark-preserved : goal.loop-mark-preserved
loop-mark-preserved c =
    let l = c.loop-mark in
    let mark = get_or c.args.row.now l.mark-index 0 in
    elim c.if-mark-lt16.branch [
      | in-16+then-count-gt1 w ↦
          let n : mark ≡ end_mark → ⊥ = λ e. omega arith in
          rw (w.operands-is, w.count-is)
          (read_join l.invariant (omega arith) n w.joined.result (join_test mark (search rules)) w.if-count-gt1.true w.joined.ensures)
      | in-16+else-count-gt1 w ↦
          let n : mark ≡ end_mark → ⊥ = λ e. omega arith in
          rw (w.operands-is, w.count-is) (read_no_join l.invariant (omega arith) n (join_test mark (search rules)) w.if-count-gt1.false)
      | in_default w ↦
          let n : mark ≡ end_mark → ⊥ = λ e. search rules in
          rw (w.operands-is, w.count-is)
          (read_column l.invariant (omega arith) n w.column_lanes.result (not_join mark (λ e. search rules) (λ e. search rules)) w.column_lanes.ensures)
    ]

pub returns : goal.returns
returns c =
    let row = c.args.row.now in
    let l = c.loop-mark in
    read_all l.invariant
    (elim c.loop-mark-test.branch [
      | else-loop-mark-test w ↦ before_past row l.mark-index (omega arith)
      | then-loop-mark-test+in-18 w ↦ before_here row l.mark-index (omega arith) w.in-18.is
    ])
