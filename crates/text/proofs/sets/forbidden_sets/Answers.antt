-- `text::sets::forbidden_sets` meets its contract. Assumes nothing.
use mathlib.Core.Path.{◌≡◌, ◌∙◌}
use native.Mathlib.Omega.{arith}
use lib.ListN.{length}
use Rattle.std.proofs.lemmas.List.{set-get_or}
use Rattle.text.proofs.SetLines.{sets_more, sets_end, sets_full}
use Rattle.text.proofs.sets.forbidden_sets.Goals as goal

pub returns-in_default : goal.returns-in_default
returns-in_default c =
    let l = c.loop-count in
    λ q to columns rows known few are room.
    rw (set-get_or l.sets l.count 0) (sets_end (l.invariant.left q to columns rows known few are) c.in_default.ensures.steps)

pub loop-count-preserved : goal.loop-count-preserved
loop-count-preserved c =
    let l = c.loop-count in
    let step = c.in-Some.ensures.steps in
    record {
      text = step.text ∙ l.invariant.text;
      left = λ q to columns rows known few are.
          sets_more (l.invariant.left q to columns rows known few are) step (omega (arith, c.loop-count-test.true, l.auto.sets))
          (λ r names w. c.set_of.ensures q r columns names known few (rw c.width-before.ensures w));
    }

pub returns : goal.returns
returns c =
    let l = c.loop-count in
    let all : l.count ≡ length l.sets = omega (arith, c.loop-count-test.false, l.auto.sets, l.auto.count-end) in
    λ q to columns rows known few are room.
    rw (← all) (sets_full (l.invariant.left q to columns rows known few are) (omega (arith, c.loop-count-test.false)) room)
