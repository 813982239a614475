-- Forbidden sets and names of columns told from a place of the text and not from a walk over it: how reading begins and ends there, whatever list of bytes
-- it is. Assumes nothing.
use mathlib.Core.Path.{◌≡◌, refl, ap, ◌∙◌}
use mathlib.Core.List.{List, [], ◌++◌, map, append-nil}
use Prim.Native.Nat.{ℕ, ◌≤◌}
use native.Mathlib.Omega.{arith}
use lib.ListN.{length, length-append}
use Rattle.rules.specs.Sets.{most_columns}
use Rattle.rules.specs.Signs.{forbid_key}
use Rattle.rules.specs.Names.{Spot}
use Rattle.rules.specs.Texts.{Line}
use Rattle.naming.specs.Words.{Rows}
use Rattle.naming.proofs.Sought.{none_left}
use Rattle.naming.proofs.Walks.{Ahead}
use Rattle.text.specs.Tables.{name_table, Tabled}
use Rattle.text.proofs.SetLines.{SetsLaid}

-- of the lines of a key those from a place on are left, and something is known of them
pub record RowsLeft (s key : List ℕ) (place q : ℕ) (Known : List (Line (List Spot)) → Type 0) : Type 0 where
  pub later : List (Line (List Spot))
  pub rows : Rows s key place q later
  pub known : Known later

abbrev pub SetsLeft : List ℕ → List Spot → List (Line (List Spot)) → ℕ → ℕ → ℕ → List ℕ → Type 0
SetsLeft s columns rows q place count sets = RowsLeft s forbid_key place q (SetsLaid columns rows count sets)

-- before the first line
pub sets_none : {s : List ℕ} {columns : List Spot} {rows : List (Line (List Spot))} {q from : ℕ} {sets : List ℕ} → Rows s forbid_key from q rows
    → SetsLeft s columns rows q from 0 sets
sets_none {rows} are = record { later = rows; rows = are; known = record { done = []; whole = refl; many = refl; laid = refl } }

-- so many columns are read, and their names stand in the table
pub record Filled (s : List ℕ) (q : ℕ) (columns : List Spot) (place count : ℕ) (names : List ℕ) : Type 0 where
  pub done : List Spot
  pub left : List Spot
  pub whole : columns ≡ done ++ left
  pub ahead : Ahead s place q left
  pub many : count ≡ length done
  pub table : names ≡ name_table (map (λ x. x.name) done)

-- where 16 columns are read there are no more
pub filled_full : {s : List ℕ} {q : ℕ} {columns : List Spot} {place count : ℕ} {names : List ℕ} → Filled s q columns place count names
    → most_columns ≤ count → length columns ≤ most_columns → Tabled columns (record { columns = count; names = names })
filled_full {columns} f h few =
    let none = none_left f.left (omega (arith, f.many, ap length f.whole, length-append f.done f.left)) in
    let same : columns ≡ f.done = f.whole ∙ ap (λ (l : List Spot). f.done ++ l) none ∙ append-nil f.done in
    rw same (record { many = f.many; names = f.table })
