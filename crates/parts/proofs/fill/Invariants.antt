-- `parts::fill` meets its contract. Assumes nothing.
use Rattle.parts.specs.Parts.{in_table}
use Rattle.parts.proofs.FilledTables.{Filled}
use Rattle.parts.proofs.fill.Given as goal

abbrev pub invariant-loop-s : goal.invariant-loop-s
invariant-loop-s l = Filled (in_table l.gains) (in_table l.lean) (in_table l.possible) l.s
