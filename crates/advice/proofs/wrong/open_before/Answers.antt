-- `advice::wrong::open_before` meets its contract. The invariant: so many brackets are open behind the first bytes. Assumes nothing.
use native.Mathlib.Omega.{arith}
use Rattle.advice.proofs.Opened.{opened_none, opened_open, opened_close, opened_other}
use Rattle.advice.proofs.wrong.open_before.Goals as goal
use Rattle.advice.proofs.wrong.open_before.Goals.{in-40, in-41, in_default}

pub loop-sign-init : goal.loop-sign-init
loop-sign-init c = opened_none _

pub loop-sign-preserved : goal.loop-sign-preserved
loop-sign-preserved c =
    let inv = c.loop-sign.invariant in
    let more = c.loop-sign-test.true in
    elim c.match-sign.branch [
      | in-40 w ↦ rw w.opened-is (opened_open inv more w.in-40.is)
      | in-41 w ↦ rw (w.opened-is, w.saturating_sub-opened.ensures) (opened_close inv more w.in-41.is)
      | in_default w ↦ rw w.opened-is (opened_other inv more (λ e. omega arith) (λ e. omega arith))
    ]
