-- `tables::gained::add` meets its contract. Assumes nothing.
use mathlib.Core.Path.{◌≡◌}
use Prim.Native.Nat.{◌^◌}
use native.Mathlib.Omega.{arith}
use lib.ListN.{length, get_or}
use Rattle.tables.proofs.ByteTables.{given_part, added}
use Rattle.tables.proofs.gained.add.Goals as goal

pub loop-block-preserved : goal.loop-block-preserved
loop-block-preserved c =
    let a = c.args in
    let l = c.loop-block in
    added (2 ^ a.k) (length a.met.now) a.met.now l.block a.table.now l.table _ (omega arith) l.invariant
    (given_part (get_or a.met.now l.block 0) (2 ^ a.k) l.block l.table _ c.add_block.new.places (omega arith) (omega arith) (omega arith)
    c.add_block.ensures)

pub returns : goal.returns
returns c =
    let l = c.loop-block in
    let all : l.block ≡ length c.args.met.now = omega arith in
    (rw all at l.invariant).0
