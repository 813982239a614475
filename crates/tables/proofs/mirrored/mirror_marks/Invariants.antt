-- `tables::mirrored::mirror_marks` changes the marks one after the other. Assumes nothing.
use mathlib.Core.Path.{◌≡◌}
use Rattle.tables.specs.Mirrored.{mirrored_mark}
use Rattle.tables.proofs.Changed.{changed}
use Rattle.tables.proofs.mirrored.mirror_marks.Given as goal

abbrev pub invariant-loop-mark : goal.invariant-loop-mark
invariant-loop-mark l = l.marks ≡ changed (mirrored_mark l.columns) l.mark-index l.initial.marks
