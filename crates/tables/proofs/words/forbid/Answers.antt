-- `tables::words::forbid` meets its contract. Assumes nothing.
use mathlib.Core.Path.{sym, ◌∙◌}
use Prim.Native.Nat.{◌+◌}
use native.Mathlib.Omega.{arith}
use lib.ListN.{length}
use Rattle.std.proofs.lemmas.List.{set-get_or}
use Rattle.tables.proofs.WordTables.{stays_later, stays_set}
use Rattle.tables.proofs.Forbidden.{out_more, out_same}
use Rattle.tables.proofs.words.forbid.Goals.{then-contains, else-contains}
use Rattle.tables.proofs.words.forbid.Goals as goal

pub loop-block-preserved : goal.loop-block-preserved
loop-block-preserved c =
    let l = c.loop-block in
    let low = c.low_lanes-low.result in
    let table₀ = c.args.table.now in
    let test = sym c.contains.ensures in
    let same = set-get_or l.table l.block 0 in
    elim c.if-contains.branch [
      | then-contains w ↦ (
        rw w.table-is
            (out_more low _ (length table₀) table₀ l.block l.table (omega arith) l.invariant.1 l.invariant.0 (omega arith) (omega arith)
            (test ∙ w.if-contains.true)),
        rw w.table-is (stays_set l.block _ table₀ l.table l.invariant.1),
      )
      | else-contains w ↦ (
        rw (w.table-is, same)
            (out_same low _ (length table₀) table₀ l.block l.table (omega arith) l.invariant.1 l.invariant.0 (test ∙ w.if-contains.false)),
        rw (w.table-is, same) (stays_later l.block (l.block + 1) table₀ l.table (omega arith) l.invariant.1),
      )
    ]
