-- `faults::names::line_fault` meets its contract. Assumes nothing.
use mathlib.Core.Path.{refl, sym, ◌∙◌}
use mathlib.Core.List.{[], ◌∷◌, ◌++◌}
use Rattle.rules.specs.Names.{spot}
use Rattle.rules.proofs.Names.{name_begins}
use Rattle.faults.specs.Kinds.{fault_by}
use Rattle.faults.proofs.Left.{names_start, name_here, name_next, name_last, skips_nothing, name_between, between_at}
use Rattle.faults.proofs.Refusing.{passed_on}
use Rattle.faults.proofs.Tested.{all_right, first_faulty, first_right}
use Rattle.faults.proofs.names.line_fault.Goals as goal

pub loop-place-init : goal.loop-place-init
loop-place-init c =
    let from = c.new-place-items.ensures in
    record {
      goes = tt;
      ends = tt;
      left = λ q to columns names k few w.
          rw c.into_iter-place-iterator.ensures.into_iter_gives
          (names_start from w (record { before = []; between = skips_nothing from.place; same = refl }));
    }

pub returns-in_err-fault_of : goal.returns-in_err-fault_of
returns-in_err-fault_of c =
    let a = c.args in
    let step = c.in-Some.ensures.steps in
    λ q to columns names k few w.
    let h = name_here (c.loop-place.invariant.left q to columns names k few w) step in
    let right = h.3 in
    passed_on c.from_residual.result _ c.from_residual.ensures.1
    (first_faulty (fault_by a.section columns) right.before (spot a.text.now c.in-Some.place h.0) h.1
    (c.in_err-fault_of.ensures h.0 q columns right.before k few (between_at step.here right.between) (name_begins h.2) h.2.run)
    ∙ sym right.same)

pub loop-place-preserved : goal.loop-place-preserved
loop-place-preserved c =
    let a = c.args in
    let step = c.in-Some.ensures.steps in
    record {
      goes = tt;
      ends = tt;
      left = λ q to columns names k few w.
          name_next (c.loop-place.invariant.left q to columns names k few w) step
          (λ end later n skips right.
          let between = between_at step.here right.between in
          record {
            before = right.before ++ (spot a.text.now c.in-Some.place end ∷ []);
            between = name_between between n skips;
            same = right.same
                ∙ first_right (fault_by a.section columns) right.before (spot a.text.now c.in-Some.place end) later
                (c.in_ok-fault_of.ensures end q columns right.before k few between (name_begins n) n.run);
          });
    }

pub returns : goal.returns
returns c = λ q to columns names k few w. sym (all_right (name_last (c.loop-place.invariant.left q to columns names k few w) c.in-None.ensures.steps))
