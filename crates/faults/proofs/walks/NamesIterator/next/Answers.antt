-- `faults::walks::Names::next` meets its contract. Assumes nothing.
use native.Mathlib.Omega.{arith}
use Rattle.rules.proofs.Signs.{named_inside}
use Rattle.naming.proofs.Runs.{told, run_some}
use Rattle.faults.proofs.walks.NamesIterator.next.Goals as goal

pub returns-clause-goes : goal.returns-clause-goes
returns-clause-goes c =
    let walk = c.args.self.now in
    let here = told c.byte.ensures c.in_name.ensures c.if-not-in_name.false in
    let inside = named_inside walk.text.now walk.place here in
    let past = run_some c.name_end.ensures here in
    record { on = λ _. (tt, tt, omega (arith, c.next_name-self.ensures.forward)); keeps = tt; rests = λ _. tt }
