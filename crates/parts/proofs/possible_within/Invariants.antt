-- `parts::possible_within` meets its contract. Assumes nothing.
use Rattle.parts.specs.Parts.{in_table, Gathers}
use Rattle.parts.proofs.possible_within.Given as goal

abbrev pub invariant-loop-column : goal.invariant-loop-column
invariant-loop-column l = Gathers (in_table l.gains) (in_table l.possible) l.column l.set.bits l.all
