-- `faults::names::line_fault` meets its contract. The invariant: none of the names before the walk's place is at fault. Assumes nothing.
use mathlib.Core.List.{List}
use Prim.Native.Nat.{ℕ, ◌≤◌}
use lib.ListN.{length}
use Rattle.rules.specs.Sets.{most_columns}
use Rattle.rules.specs.Names.{Spot}
use Rattle.naming.specs.Words.{Words, columns_from}
use Rattle.faults.specs.Kinds.{fault_by}
use Rattle.faults.proofs.Left.{NamesLeft}
use Rattle.faults.proofs.Tested.{RightBefore}
use Rattle.faults.proofs.names.line_fault.Given as goal

abbrev pub invariant-loop-place : goal.invariant-loop-place
invariant-loop-place l =
    record {
      goes : (goal.iterator-loop-place).can_next l.place-iterator;
      ends : (goal.iterator-loop-place).is_finite l.place-iterator;
      left : (q to : ℕ) (columns names : List Spot) → Words l.text columns_from q columns → length columns ≤ most_columns → Words l.text l.from to names
          → NamesLeft l.text l.place-iterator to (RightBefore l.text (fault_by l.section columns) l.from l.place-iterator.place names);
    }
