-- `tables::words::forbid` meets its contract. Assumes nothing.
use lib.ListN.{length}
use Rattle.tables.specs.Tables.{Stays}
use Rattle.tables.proofs.Forbidden.{Out}
use Rattle.tables.proofs.words.forbid.Given as goal

abbrev pub invariant-loop-block : goal.invariant-loop-block
invariant-loop-block l =
    Out l.low l.high.bits (length l.initial.table) l.initial.table l.block l.table × Stays l.block l.initial.table l.table
