-- `text::table::name_table` meets its contract. Assumes nothing.
use mathlib.Core.Path.{◌≡◌}
use mathlib.Core.List.{List}
use Prim.Native.Nat.{ℕ}
use lib.ListN.{length}
use Rattle.rules.specs.Names.{Spot}
use Rattle.naming.specs.Words.{Words, columns_from}
use Rattle.text.specs.Tables.{table_bytes}
use Rattle.text.proofs.Tabling.{NamesFilled}
use Rattle.text.proofs.table.name_table.Given as goal

abbrev pub invariant-loop-columns : goal.invariant-loop-columns
invariant-loop-columns l =
    record {
      text : l.places.text.now ≡ l.text;
      long : length l.names ≡ table_bytes;
      filled : (q : ℕ) (known : List Spot) → Words l.text columns_from q known → NamesFilled l.text known l.places q l.columns l.names;
    }
