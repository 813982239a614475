-- The table of names filled column after column. Assumes nothing.
use mathlib.Core.Path.{◌≡◌, refl, sym, ap, ◌∙◌}
use Rattle.rules.specs.Options.{None}
use mathlib.Core.List.{List, [], ◌∷◌, ◌++◌, map, map-append, append_assoc, append-nil}
use Prim.Native.Nat.{ℕ, ◌+◌, ◌-◌, ◌*◌, ◌≤◌, ◌<◌}
use native.Mathlib.Omega.{arith}
use lib.ListN.{length, take, drop, replicate, length-append, length-map, length-take}
use Rattle.rules.specs.Lists.{written}
use Rattle.rules.specs.Sets.{most_columns}
use Rattle.rules.specs.Signs.{piece}
use Rattle.rules.specs.Names.{Spot, spot, Run, Name, most_name_bytes}
use Rattle.naming.specs.Words.{Words, Skips, columns_from}
use Rattle.naming.proofs.Sought.{none_left}
use Rattle.faults.specs.Walks.{NamesFrom, PassesName, GivesName}
use Rattle.faults.specs.declared.walks.Names.{Names}
use Rattle.faults.proofs.Left.{NamesLeft, names_start, name_next, name_last}
use Rattle.text.specs.Tables.{table_bytes, name_rows, name_table, Tabled}
use Rattle.text.proofs.NameTables.{table_more}

-- so many columns are read, and their names stand in the table
pub record Filled (columns : List Spot) (count : ℕ) (names : List ℕ) (left : List Spot) : Type 0 where
  pub done : List Spot
  pub whole : columns ≡ done ++ left
  pub many : count ≡ length done
  pub table : names ≡ name_table (map (λ x. x.name) done)

abbrev pub NamesFilled : List ℕ → List Spot → Names → ℕ → ℕ → List ℕ → Type 0
NamesFilled s columns walk q count names = NamesLeft s walk q (Filled columns count names)

piece_short : (s : List ℕ) (p q : ℕ) → q ≤ p + most_name_bytes → length (piece s p q) ≤ most_name_bytes
piece_short s p q h = omega (arith, length-take (q - p) (drop p s))

module _ {s : List ℕ} {q : ℕ} {columns : List Spot} where
  -- before the first column
  pub filled_none : {walk : Names} → NamesFrom s columns_from walk → Words s columns_from q columns
      → NamesFilled s columns walk q 0 (replicate table_bytes 0)
  unfolding name_table name_rows written
  filled_none f w = names_start f w (record { done = []; whole = refl; many = refl; table = refl })

  module _ {walk : Names} {count : ℕ} {names : List ℕ} (f : NamesFilled s columns walk q count names) where
    -- one column more
    pub filled_more : {p : ℕ} {next : Names} {new : List ℕ} → PassesName walk p next → count < most_columns
        → ((end : ℕ) → Run s p end → end ≤ p + most_name_bytes
        → new ≡ take (most_name_bytes * count) names ++ written (piece s p end) (drop (most_name_bytes * count) names))
        → NamesFilled s columns next q (count + 1) new
    filled_more {p} {next} {new} step few put = name_next f step more
      where
        more : (end : ℕ) (later : List Spot) → Name s p end → Skips s end next.place → Filled columns count names (spot s p end ∷ later)
            → Filled columns (count + 1) new later
        more end later n skips k =
            let x : Spot = spot s p end in
            let before : List (List ℕ) = map (λ x. x.name) k.done in
            let many : count ≡ length before = k.many ∙ sym (length-map k.done (λ (y : Spot). y.name)) in
            record {
              done = k.done ++ (x ∷ []);
              whole = k.whole ∙ sym (append_assoc k.done (x ∷ []) later);
              many = omega (arith, k.many, length-append k.done (x ∷ []));
              table =
                  put end n.run n.short
                  ∙ ap (λ (l : List ℕ). take (most_name_bytes * count) l ++ written x.name (drop (most_name_bytes * count) l)) k.table
                  ∙ ap (λ (k : ℕ). take (most_name_bytes * k) (name_table before) ++ written x.name (drop (most_name_bytes * k) (name_table before))) many
                  ∙ table_more before x.name (omega (arith, many)) (piece_short s p end n.short)
                  ∙ ap name_table (sym (map-append (λ (y : Spot). y.name) k.done (x ∷ [])));
            }

    filled_all : Filled columns count names [] → Tabled columns (record { columns = count; names = names })
    filled_all k = rw (k.whole ∙ append-nil k.done) (record { many = k.many; names = k.table })

    -- where no name is left all columns are read
    pub filled_end : {next : Names} → GivesName walk None next → Tabled columns (record { columns = count; names = names })
    filled_end k = filled_all (name_last f k)

    -- where 16 columns are read there are no more
    pub filled_full : most_columns ≤ count → length columns ≤ most_columns → Tabled columns (record { columns = count; names = names })
    filled_full h few =
        let k = f.known in
        let none : f.later ≡ [] = none_left f.later (omega (arith, k.many, ap length k.whole, length-append k.done f.later)) in
        filled_all (rw none at k)
