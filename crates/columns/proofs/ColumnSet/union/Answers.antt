-- `columns::ColumnSet::union` meets its contract. Assumes nothing.
use mathlib.Core.Path.{sym}
use native.Mathlib.Omega.{arith}
use Rattle.rules.proofs.Sets.{union_bits}
use Rattle.columns.proofs.ColumnSet.union.Goals as goal

pub returns : goal.returns
returns c =
    let a = c.args in
    sym (union_bits a.self.bits a.other.bits (omega arith) (omega arith))
