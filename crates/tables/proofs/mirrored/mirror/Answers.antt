-- `tables::mirrored::mirror` meets its contract. Assumes nothing.
use mathlib.Core.Path.{sym, ap, ◌∙◌}
use Prim.Native.Nat.{ℕ, ◌+◌, ◌*◌, ◌/◌, ◌%◌, ◌^◌, ◌<◌}
use native.Mathlib.Omega.{arith}
use Rattle.tables.proofs.Mirrors.{mirror_start, mirror_next, mirror_room}
use Rattle.tables.proofs.mirrored.mirror.Goals as goal

pub loop-column-init : goal.loop-column-init
loop-column-init c = sym (mirror_start c.args.set)

pub overflow_mul-mirrored : goal.overflow_mul-mirrored
overflow_mul-mirrored c =
    let l = c.loop-column in
    -- fewer than 16 columns leave room for one more
    let room : l.mirrored < 2 ^ 15 = rw l.invariant (mirror_room l.column c.args.set (omega arith)) in
    omega arith

pub overflow_add-mirrored : goal.overflow_add-mirrored
overflow_add-mirrored c =
    let l = c.loop-column in
    -- fewer than 16 columns leave room for one more
    let room : l.mirrored < 2 ^ 15 = rw l.invariant (mirror_room l.column c.args.set (omega arith)) in
    omega arith

pub loop-column-preserved : goal.loop-column-preserved
loop-column-preserved c =
    let l = c.loop-column in
    let set = c.args.set in
    ap (λ (m : ℕ). m * 2 + set / 2 ^ l.column % 2) l.invariant ∙ sym (mirror_next l.column set)
