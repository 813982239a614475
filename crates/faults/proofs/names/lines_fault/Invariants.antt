-- `faults::names::lines_fault` meets its contract. The invariant: no name of a line before the walk's place is at fault. Assumes nothing.
use mathlib.Core.Path.{◌≡◌}
use mathlib.Core.List.{List, map}
use Prim.Native.Nat.{ℕ, ◌≤◌}
use lib.ListN.{length}
use Rattle.rules.specs.Sets.{most_columns}
use Rattle.rules.specs.Names.{Spot}
use Rattle.rules.specs.Texts.{Line}
use Rattle.rules.specs.Sheets.{lines_fault}
use Rattle.naming.specs.Words.{Words, Rows, columns_from}
use Rattle.naming.specs.Sections.{key_of}
use Rattle.faults.specs.Kinds.{fault_by}
use Rattle.faults.proofs.Left.{RowsLeft}
use Rattle.faults.proofs.names.lines_fault.Given as goal

abbrev pub invariant-loop-place : goal.invariant-loop-place
invariant-loop-place l =
    record {
      goes : (goal.iterator-loop-place).can_next l.place-iterator;
      ends : (goal.iterator-loop-place).is_finite l.place-iterator;
      text : l.place-iterator.text.now ≡ l.text;
      left : (q to : ℕ) (columns : List Spot) (rows : List (Line (List Spot))) → Words l.text columns_from q columns → length columns ≤ most_columns
          → Rows l.text (key_of l.section) l.from to rows
          → RowsLeft l.text l.section l.place-iterator to
          (λ later. lines_fault (fault_by l.section columns) (map (λ l. l.value) rows) ≡ lines_fault (fault_by l.section columns)
          (map (λ l. l.value) later));
    }
