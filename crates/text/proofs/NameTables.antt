-- The table of names, filled name after name. Assumes nothing.
use mathlib.Core.Path.{◌≡◌, refl, sym, ap, ◌∙◌}
use mathlib.Core.List.{List, [], ◌∷◌, ◌++◌, append_assoc, append-nil}
use Prim.Native.Nat.{ℕ, ◌-◌, ◌*◌, ◌≤◌, ◌<◌}
use native.Mathlib.Omega.{arith}
use lib.ListN.{length, take, drop, replicate, length-replicate, length-append}
use Rattle.std.proofs.lemmas.List.{drop-replicate}
use Rattle.rules.specs.Lists.{written}
use Rattle.rules.specs.Sets.{most_columns}
use Rattle.rules.specs.Names.{most_name_bytes}
use Rattle.rules.proofs.Written.{length_written, take_written, drop_written, written_after, written_padded}
use Rattle.text.specs.Tables.{table_bytes, name_rows, name_table}

pub length_rows : (names : List (List ℕ)) → length (name_rows names) ≡ most_name_bytes * length names
unfolding name_rows
length_rows [] = refl
length_rows (name ∷ names) =
    let row : length (written name (replicate most_name_bytes 0)) ≡ most_name_bytes
    = length_written name (replicate most_name_bytes 0) ∙ length-replicate {A = ℕ} most_name_bytes 0 in
    length-append (written name (replicate most_name_bytes 0)) (name_rows names) ∙ omega (arith, row, length_rows names)

rows_last : (names : List (List ℕ)) (name : List ℕ) → name_rows (names ++ (name ∷ [])) ≡ name_rows names ++ written name (replicate most_name_bytes 0)
unfolding name_rows
rows_last [] name = append-nil (written name (replicate most_name_bytes 0))
rows_last (x ∷ names) name =
    ap (λ (l : List ℕ). written x (replicate most_name_bytes 0) ++ l) (rows_last names name)
    ∙ sym (append_assoc (written x (replicate most_name_bytes 0)) (name_rows names) (written name (replicate most_name_bytes 0)))

-- a table with a name more: the name is written behind the rows that stand
pub table_more : (names : List (List ℕ)) (name : List ℕ) → length names < most_columns → length name ≤ most_name_bytes
    → take (most_name_bytes * length names) (name_table names) ++ written name (drop (most_name_bytes * length names) (name_table names))
    ≡ name_table (names ++ (name ∷ []))
unfolding name_table
table_more names name few short =
    rw (← many) (go (replicate table_bytes 0) (length-replicate {A = ℕ} table_bytes 0) (drop-replicate (length (name_rows names)) table_bytes 0))
  where
    many : length (name_rows names) ≡ most_name_bytes * length names
    many = length_rows names

    go : (zeros : List ℕ) → length zeros ≡ table_bytes → drop (length (name_rows names)) zeros ≡ replicate (table_bytes - length (name_rows names)) 0
        → take (length (name_rows names)) (written (name_rows names) zeros)
        ++ written name (drop (length (name_rows names)) (written (name_rows names) zeros))
        ≡ written (name_rows (names ++ (name ∷ []))) zeros
    go zeros long left =
        let room : length (name_rows names) ≤ length zeros = omega (arith, many, long, few) in
        rw (take_written (name_rows names) zeros room, drop_written (name_rows names) zeros, left, rows_last names name)
        (sym (written_after (name_rows names) (written name (replicate most_name_bytes 0)) zeros room
        ∙ ap (λ (l : List ℕ). name_rows names ++ l)
        (ap (written (written name (replicate most_name_bytes 0))) left
        ∙ written_padded name most_name_bytes (table_bytes - length (name_rows names)) 0 short (omega (arith, many, few)))))
