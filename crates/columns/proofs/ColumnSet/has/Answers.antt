-- `columns::ColumnSet::has` meets its contract. Assumes nothing.
use mathlib.Core.Path.{sym, ◌∙◌}
use Prim.Native.Nat.{◌≤◌}
use native.Mathlib.Omega.{arith}
use borrow.Author.Tests.{ltb-false, le-ltb}
use Rattle.rules.proofs.SetBits.{has_beyond}
use Rattle.columns.proofs.ColumnSet.has.Goals as goal

pub returns-else-i-lt-MOST_COLUMNS : goal.returns-else-i-lt-MOST_COLUMNS
returns-else-i-lt-MOST_COLUMNS c =
    let a = c.args in
    let beyond : 16 ≤ a.i = omega (arith, ltb-false) in
    le-ltb a.i 16 beyond ∙ sym (has_beyond 16 a.self.bits a.i (omega arith) beyond)
