-- `advice::wrong::open_before` meets its contract. The invariant: so many brackets are open behind the first bytes. Assumes nothing.
use Rattle.advice.proofs.Opened.{Opened}
use Rattle.advice.proofs.wrong.open_before.Given as goal

abbrev pub invariant-loop-sign : goal.invariant-loop-sign
invariant-loop-sign l = Opened l.before l.sign-index l.opened
