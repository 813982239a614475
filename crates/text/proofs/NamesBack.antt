-- The names of a table read back, byte by byte: behind a name stands 0. Assumes nothing.
use mathlib.Core.Path.{◌≡◌, refl, sym, ◌∙◌}
use mathlib.Core.List.{List, [], ◌∷◌}
use Prim.Native.Nat.{ℕ, zero, suc, ◌+◌, ◌*◌, ◌≤◌, ◌<◌}
use native.Mathlib.Decide.{dec_lt}
use native.Mathlib.Omega.{arith}
use lib.ListN.{length, get_or, replicate, length-replicate, get_or-append, get_or-eq_default}
use lib.Seq.{get_or-append-add}
use Rattle.rules.specs.Lists.{written}
use Rattle.rules.specs.Sets.{most_columns}
use Rattle.rules.specs.Names.{most_name_bytes}
use Rattle.rules.proofs.Written.{length_written, get_d_padded}
use Rattle.text.specs.Tables.{table_bytes, name_rows, name_table}
use Rattle.text.proofs.NameTables.{length_rows}

-- a row of the table has 12 bytes
row_length : (name : List ℕ) → length (written name (replicate most_name_bytes 0)) ≡ most_name_bytes
row_length name = length_written name (replicate most_name_bytes 0) ∙ length-replicate {A = ℕ} most_name_bytes 0

rows_byte : (names : List (List ℕ)) (c i : ℕ) → i < most_name_bytes
    → get_or (name_rows names) (most_name_bytes * c + i) 0 ≡ get_or (get_or names c []) i 0
unfolding name_rows
rows_byte [] c i h = refl
rows_byte (name ∷ names) zero i h =
    let here : most_name_bytes * 0 + i ≡ i = omega arith in
    rw here
    (get_or-append (written name (replicate most_name_bytes 0)) (name_rows names) 0 i (omega (arith, row_length name))
    ∙ get_d_padded name most_name_bytes i 0 h)
rows_byte (name ∷ names) (suc c) i h =
    let there : most_name_bytes * suc c + i ≡ length (written name (replicate most_name_bytes 0)) + (most_name_bytes * c + i) = omega (arith, row_length name) in
    rw there
    (get_or-append-add (written name (replicate most_name_bytes 0)) (name_rows names) (most_name_bytes * c + i) 0 ∙ rows_byte names c i h)

-- byte i of the row of column c is byte i of its name, or 0 where the name has none
pub table_byte : (names : List (List ℕ)) (c i : ℕ) → length names ≤ most_columns → i < most_name_bytes
    → get_or (name_table names) (most_name_bytes * c + i) 0 ≡ get_or (get_or names c []) i 0
unfolding name_table
table_byte names c i few h = go (dec_lt (most_name_bytes * c + i) table_bytes)
  where
    go : Dec (most_name_bytes * c + i < table_bytes) → get_or (written (name_rows names) (replicate table_bytes 0)) (most_name_bytes * c + i) 0
        ≡ get_or (get_or names c []) i 0
    go (yes l) = get_d_padded (name_rows names) table_bytes (most_name_bytes * c + i) 0 l ∙ rows_byte names c i h
    go (no n) =
        let long = length_written (name_rows names) (replicate table_bytes 0) ∙ length-replicate {A = ℕ} table_bytes 0 in
        get_or-eq_default (written (name_rows names) (replicate table_bytes 0)) 0 (omega (arith, long, n))
        ∙ sym (get_or-eq_default (name_rows names) 0 (omega (arith, n, length_rows names, few)))
        ∙ rows_byte names c i h
