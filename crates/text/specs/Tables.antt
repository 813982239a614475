-- The names of a job's columns in a table of 12 bytes for each.
use Rattle.std.specs.Prelude.{◌≡◌, List, [], ◌∷◌, ◌++◌, map, ℕ, ◌*◌, length, replicate}
use Rattle.rules.specs.Lists.{written}
use Rattle.rules.specs.Sets.{most_columns}
use Rattle.rules.specs.Names.{Spot, most_name_bytes}
use Rattle.text.specs.declared.table.Table.{Table}

-- the names of 16 columns
abbrev pub table_bytes : ℕ
table_bytes = most_name_bytes * most_columns

-- names behind one another, 12 bytes for each; a byte that a name lacks is 0
unfoldable pub name_rows : List (List ℕ) → List ℕ
name_rows [] = []
name_rows (name ∷ names) = written name (replicate most_name_bytes 0) ++ name_rows names

-- the table of names
unfoldable pub name_table : List (List ℕ) → List ℕ
name_table names = written (name_rows names) (replicate table_bytes 0)

-- the columns are counted and their names in the table
pub record Tabled (columns : List Spot) (r : Table) : Type 0 where
  pub many : r.columns ≡ length columns
  pub names : r.names ≡ name_table (map (λ x. x.name) columns)
