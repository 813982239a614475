-- `naming::known::column_of` meets its contract. The invariant: the columns from the loop's place on are all but so many, and none of those is
-- the name. Assumes nothing.
use mathlib.Core.List.{List}
use Prim.Native.Nat.{ℕ}
use Rattle.rules.specs.Signs.{piece}
use Rattle.rules.specs.Names.{Spot, Run}
use Rattle.naming.specs.Words.{Words, columns_from}
use Rattle.naming.proofs.Sought.{Sought}
use Rattle.naming.proofs.known.column_of.Given as goal

abbrev pub invariant-loop-column : goal.invariant-loop-column
invariant-loop-column l = (p q : ℕ) (columns : List Spot) → Words l.text columns_from q columns → Run l.text l.at p
    → Sought l.text l.place q l.column (piece l.text l.at p) columns
