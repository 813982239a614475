-- `columns::ColumnSet::without` meets its contract. Assumes nothing.
use mathlib.Core.Path.{sym}
use native.Mathlib.Omega.{arith}
use Rattle.rules.proofs.Sets.{without_bits}
use Rattle.columns.proofs.ColumnSet.without.Goals as goal

pub returns : goal.returns
returns c =
    let a = c.args in
    sym (without_bits a.self.bits a.other.bits (omega arith))
