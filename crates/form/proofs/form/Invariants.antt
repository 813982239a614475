-- `form::form` meets its contract. The invariant: the bytes so far have led to the state, and none was wrong. Assumes nothing.
use Rattle.form.proofs.Places.{Followed}
use Rattle.form.proofs.form.Given as goal

abbrev pub invariant-loop-i : goal.invariant-loop-i
invariant-loop-i l = Followed l.text l.state l.i
