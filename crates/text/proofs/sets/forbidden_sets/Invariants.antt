-- `text::sets::forbidden_sets` meets its contract. Assumes nothing.
use mathlib.Core.Path.{◌≡◌}
use mathlib.Core.List.{List}
use Prim.Native.Nat.{ℕ, ◌≤◌}
use lib.ListN.{length}
use Rattle.rules.specs.Sets.{most_columns}
use Rattle.rules.specs.Signs.{forbid_key}
use Rattle.rules.specs.Names.{Spot}
use Rattle.rules.specs.Texts.{Line}
use Rattle.naming.specs.Words.{Words, Rows, columns_from}
use Rattle.text.proofs.SetLines.{SetsLeft}
use Rattle.text.proofs.sets.forbidden_sets.Given as goal

abbrev pub invariant-loop-count : goal.invariant-loop-count
invariant-loop-count l =
    record {
      text : l.lines.text.now ≡ l.text;
      left : (q to : ℕ) (columns : List Spot) (rows : List (Line (List Spot))) → Words l.text columns_from q columns → length columns ≤ most_columns
          → Rows l.text forbid_key l.from to rows → SetsLeft l.text columns rows l.lines to l.count l.sets;
    }
