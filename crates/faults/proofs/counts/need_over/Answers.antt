-- `faults::counts::need_over` meets its contract. Assumes nothing.
use mathlib.Core.Path.{sym, ap, ◌∙◌}
use Prim.Native.Nat.{◌-◌, ◌<◌}
use native.Mathlib.Omega.{arith}
use Rattle.std.proofs.Common.{rules}
use Rattle.rules.specs.Options.{option_map}
use Rattle.rules.specs.Numbers.{most_needs}
use Rattle.rules.specs.Refusals.{too_many_parts}
use Rattle.rules.specs.Texts.{line}
use Rattle.rules.specs.Sheets.{refusal}
use Rattle.faults.proofs.Left.{row_here, row_next, row_end}
use Rattle.faults.proofs.Refusing.{passed_on}
use Rattle.faults.proofs.Counted.{no_row_over, row_over, row_refused, row_passed}
use Rattle.faults.proofs.counts.need_over.Goals as goal

pub returns-then-count-eq-MOST_NEEDS : goal.returns-then-count-eq-MOST_NEEDS
returns-then-count-eq-MOST_NEEDS c =
    let step = c.in-Some.ensures.steps in
    let all = sym step.1 ∙ c.if-count-eq-MOST_NEEDS.true in
    λ q rows r. let h = row_here (c.loop-count.invariant.left q rows r) step.0 in
    c.too_many.ensures
    ∙ sym (ap (option_map (refusal too_many_parts)) (h.4 ∙ row_over most_needs c.loop-count.count-iterator.count (line c.in-Some.place h.1) h.2 all))

pub returns-in_err-name_over : goal.returns-in_err-name_over
returns-in_err-name_over c =
    let step = c.in-Some.ensures.steps in
    let l = c.loop-count in
    let more : l.count-iterator.count < most_needs = omega (arith, l.invariant.few, step.1, c.if-count-eq-MOST_NEEDS.false) in
    λ q rows r. let h = row_here (l.invariant.left q rows r) step.0 in
    passed_on c.from_residual.result _ c.from_residual.ensures.1
    (rw h.4
    (row_refused most_needs l.count-iterator.count (line c.in-Some.place h.1) h.2 more
    (c.in_err-name_over.ensures h.0 h.1 (rw c.width-before.ensures h.3))))

pub loop-count-preserved : goal.loop-count-preserved
loop-count-preserved c =
    let step = c.in-Some.ensures.steps in
    let l = c.loop-count in
    let more : l.count-iterator.count < most_needs = omega (arith, l.invariant.few, step.1, c.if-count-eq-MOST_NEEDS.false) in
    record {
      goes = search rules;
      ends = tt;
      text = step.0.text ∙ l.invariant.text;
      few = omega (arith, step.2);
      left = λ q rows r. row_next (l.invariant.left q rows r) step.0
          (λ to names later w e.
          e ∙ row_passed most_needs l.count-iterator.count (line c.in-Some.place names) later more
          (c.in_ok-name_over.ensures to names (rw c.width-before.ensures w)) ∙ rw step.2);
    }

pub returns : goal.returns
returns c =
    let l = c.loop-count in
    λ q rows r. sym (ap (option_map (refusal too_many_parts)) ((row_end (l.invariant.left q rows r) c.in-None.ensures.steps.0).1
    ∙ no_row_over (most_needs - l.count-iterator.count)))
