-- `tables::mirrored::mirror_marks` meets its contract. Assumes nothing.
use mathlib.Core.Path.{◌≡◌, ◌∙◌}
use native.Mathlib.Omega.{arith}
use lib.ListN.{length}
use Rattle.tables.specs.Mirrored.{mirrored_mark}
use Rattle.tables.proofs.Changed.{changed_more, changed_all}
use Rattle.tables.proofs.mirrored.mirror_marks.Goals as goal

pub loop-mark-preserved : goal.loop-mark-preserved
loop-mark-preserved c =
    let l = c.loop-mark in
    rw (c.mirrored_mark.ensures, l.invariant) (changed_more (mirrored_mark c.args.columns) l.mark-index c.args.marks.now (omega arith))

pub returns : goal.returns
returns c =
    let l = c.loop-mark in
    let all : l.mark-index ≡ length c.args.marks.now = omega arith in
    l.invariant ∙ rw all (changed_all (mirrored_mark c.args.columns) c.args.marks.now)
