-- `columns::ColumnSet::contains` meets its contract. Assumes nothing.
use mathlib.Core.Path.{sym}
use native.Mathlib.Omega.{arith}
use Rattle.rules.proofs.Sets.{contains_bits}
use Rattle.columns.proofs.ColumnSet.contains.Goals as goal

pub returns : goal.returns
returns c =
    let a = c.args in
    sym (contains_bits a.self.bits a.other.bits (omega arith))
