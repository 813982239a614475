-- `text::sets::set_of` meets its contract. The invariant: with the columns of the names left the set is the line's. Assumes nothing.
use mathlib.Core.Path.{◌≡◌}
use mathlib.Core.List.{List}
use Prim.Native.Nat.{ℕ, ◌≤◌}
use lib.ListN.{length}
use Rattle.rules.specs.Sets.{empty, most_columns}
use Rattle.rules.specs.Names.{Spot}
use Rattle.rules.specs.Sheets.{set_with}
use Rattle.naming.specs.Words.{Words, columns_from}
use Rattle.faults.proofs.Left.{NamesLeft}
use Rattle.text.proofs.sets.set_of.Given as goal

abbrev pub invariant-loop-place : goal.invariant-loop-place
invariant-loop-place l =
    record {
      goes : (goal.iterator-loop-place).can_next l.place-iterator;
      ends : (goal.iterator-loop-place).is_finite l.place-iterator;
      left : (q to : ℕ) (columns names : List Spot) → Words l.text columns_from q columns → length columns ≤ most_columns → Words l.text l.from to names
          → NamesLeft l.text l.place-iterator to (λ later. set_with columns l.set.bits later ≡ set_with columns empty names);
    }
