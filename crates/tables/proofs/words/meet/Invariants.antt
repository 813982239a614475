-- `tables::words::meet` meets its contract. Assumes nothing.
use mathlib.Core.Path.{◌≡◌}
use Rattle.rules.specs.Options.{Some}
use Rattle.rules.specs.Needs.{Need, meets}
use Rattle.rules.specs.Marks.{need_of, before_end}
use Rattle.tables.specs.Tables.{Tells}
use Rattle.tables.proofs.words.meet.Given as goal

abbrev pub invariant-loop-block : goal.invariant-loop-block
invariant-loop-block l = (v : Need) → need_of (before_end l.row) ≡ Some v → Tells l.block (meets v) l.table
