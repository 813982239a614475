-- `columns::ColumnSet::within` meets its contract. Assumes nothing.
use mathlib.Core.Path.{sym, ap, ◌∙◌}
use native.Mathlib.Omega.{arith}
use lib.Dec.{leb}
use Rattle.rules.proofs.SetBits.{within_full}
use Rattle.columns.proofs.ColumnSet.within.Goals as goal

pub returns : goal.returns
returns c =
    let a = c.args in
    ap (leb a.self.bits) c.full.ensures ∙ sym (within_full a.n a.self.bits (omega arith))
