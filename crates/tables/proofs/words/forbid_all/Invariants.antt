-- `tables::words::forbid_all` meets its contract. Assumes nothing.
use lib.ListN.{length}
use Rattle.tables.proofs.Forbidden.{Spares}
use Rattle.tables.proofs.words.forbid_all.Given as goal

abbrev pub invariant-loop-set : goal.invariant-loop-set
invariant-loop-set l = Spares (length l.initial.table) l.forbidden l.set-index l.initial.table l.table
