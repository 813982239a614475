-- `tables::mirrored::mirror` meets its contract. Assumes nothing.
use mathlib.Core.Path.{◌≡◌}
use Rattle.tables.specs.Tables.{mirror}
use Rattle.tables.proofs.mirrored.mirror.Given as goal

abbrev pub invariant-loop-column : goal.invariant-loop-column
invariant-loop-column l = l.mirrored ≡ mirror l.column l.set
