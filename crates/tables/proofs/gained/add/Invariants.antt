-- `tables::gained::add` meets its contract. Assumes nothing.
use Prim.Native.Nat.{◌^◌}
use lib.ListN.{length}
use Rattle.tables.proofs.ByteTables.{Added}
use Rattle.tables.proofs.gained.add.Given as goal

abbrev pub invariant-loop-block : goal.invariant-loop-block
invariant-loop-block l = Added (2 ^ l.k) (length l.met) l.met l.block l.initial.table l.table
