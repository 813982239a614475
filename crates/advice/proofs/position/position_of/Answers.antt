-- `advice::position::position_of` meets its contract. The invariant: the line and column counted are those behind the first bytes. Assumes nothing.
use Rattle.advice.proofs.Located.{before_place, located_first, located_line, located_column, located_all}
use Rattle.advice.proofs.position.position_of.Goals as goal
use Rattle.advice.proofs.position.position_of.Goals.{then-sign-eq-LINE_END, else-sign-eq-LINE_END}

pub loop-sign-init : goal.loop-sign-init
loop-sign-init c = located_first _

pub loop-sign-preserved : goal.loop-sign-preserved
loop-sign-preserved c =
    let inv = c.loop-sign.invariant in
    let more = c.loop-sign-test.true in
    elim c.if-sign-eq-LINE_END.branch [
      | then-sign-eq-LINE_END w ↦ rw w.position-is (located_line inv more w.if-sign-eq-LINE_END.true)
      | else-sign-eq-LINE_END w ↦ rw w.position-is (located_column inv more w.if-sign-eq-LINE_END.false)
    ]

pub returns : goal.returns
returns c = located_all c.loop-sign.invariant _ _ (rw c.min.ensures (before_place c.args.text.now c.args.place)) c.loop-sign-test.false
