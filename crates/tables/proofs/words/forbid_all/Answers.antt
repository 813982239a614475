-- `tables::words::forbid_all` meets its contract. Assumes nothing.
use mathlib.Core.Path.{◌≡◌, ap, ◌∙◌}
use Prim.Native.Nat.{ℕ}
use native.Mathlib.Omega.{arith}
use lib.ListN.{length, take}
use lib.Seq.{take-length}
use Rattle.tables.proofs.Forbidden.{spares_none, spares_more}
use Rattle.tables.proofs.words.forbid_all.Goals as goal

pub loop-set-init : goal.loop-set-init
loop-set-init c =
    let a = c.args in
    spares_none (length a.table.now) a.forbidden.now a.table.now

pub loop-set-preserved : goal.loop-set-preserved
loop-set-preserved c =
    let a = c.args in
    let l = c.loop-set in
    spares_more (length a.table.now) a.forbidden.now l.set-index a.table.now l.table c.forbid.new.table (omega arith) l.invariant
    (rw c.loop-set.auto.table at c.forbid.ensures)

pub returns : goal.returns
returns c =
    let sets = c.args.forbidden.now in
    let l = c.loop-set in
    let all : l.set-index ≡ length sets = omega arith in
    rw (ap (λ (n : ℕ). take n sets) all ∙ take-length sets) at l.invariant
