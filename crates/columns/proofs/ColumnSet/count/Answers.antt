-- `columns::ColumnSet::count` meets its contract. Assumes nothing.
use mathlib.Core.Path.{sym}
use native.Mathlib.Omega.{arith}
use Rattle.rules.proofs.SetSizes.{size_ones}
use Rattle.columns.proofs.ColumnSet.count.Goals as goal

pub returns : goal.returns
returns c = sym (size_ones c.args.self.bits (omega arith))
