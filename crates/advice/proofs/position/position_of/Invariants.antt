-- `advice::position::position_of` meets its contract. The invariant: the line and column counted are those behind the first bytes. Assumes nothing.
use Rattle.advice.proofs.Located.{Located}
use Rattle.advice.proofs.position.position_of.Given as goal

abbrev pub invariant-loop-sign : goal.invariant-loop-sign
invariant-loop-sign l = Located l.before l.sign-index l.position
