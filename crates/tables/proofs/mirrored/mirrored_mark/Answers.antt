-- `tables::mirrored::mirrored_mark` meets its contract. Assumes nothing.
use mathlib.Core.Path.{sym}
use native.Mathlib.Omega.{arith}
use Rattle.tables.proofs.MirroredMarks.{mark_column, mark_other}
use Rattle.tables.proofs.mirrored.mirrored_mark.Goals as goal

pub returns-then-mark-columns : goal.returns-then-mark-columns
returns-then-mark-columns c = sym (mark_column c.args.columns c.args.mark (omega arith))

pub returns-else-mark-columns : goal.returns-else-mark-columns
returns-else-mark-columns c = sym (mark_other c.args.columns c.args.mark (omega arith))
