-- `columns::ColumnSet::apart` meets its contract. Assumes nothing.
use mathlib.Core.Path.{sym}
use native.Mathlib.Omega.{arith}
use Rattle.rules.proofs.Sets.{apart_bits}
use Rattle.columns.proofs.ColumnSet.apart.Goals as goal

pub returns : goal.returns
returns c =
    let a = c.args in
    sym (apart_bits a.self.bits a.other.bits (omega arith))
