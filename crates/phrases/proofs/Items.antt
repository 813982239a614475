-- What the reader of an item finds and leaves: an or-list in brackets, or a name. Assumes nothing.
use mathlib.Core.Path.{◌≡◌, refl, ap, ◌∙◌}
use mathlib.Core.List.{List, [], ◌∷◌, ◌++◌}
use Prim.Native.Nat.{ℕ, ◌+◌, ◌<◌, ◌≤◌}
use native.Mathlib.Omega.{arith}
use lib.ListN.{length, set, take}
use Rattle.rules.specs.Signs.{byte_at, bracket_open}
use Rattle.rules.specs.Names.{Spot, spot, Run}
use Rattle.rules.specs.Phrases.{Formula, ors, item, list, Stands, name, bracketed}
use Rattle.rules.specs.Sheets.{column_in, marks_in}
use Rattle.rules.proofs.Signs.{inside}
use Rattle.rules.proofs.Names.{run_unique}
use Rattle.rules.proofs.Phrases.{name_or_bracket}
use Rattle.naming.specs.Words.{Words, columns_from}
use Rattle.phrases.specs.declared.Read.{Read}
use Rattle.phrases.specs.Readers.{Readable, Marked}
use Rattle.phrases.proofs.Counts.{marks_some}
use Rattle.phrases.proofs.Turns.{read, take_set}

-- there is room for an item's first mark
pub item_room : {s : List ℕ} {p n room : ℕ} → Readable s item p n room → n < room
item_room a = omega (arith, a.fits, marks_some a.formula)

-- an opening bracket lies within the text
pub bracket_within : (s : List ℕ) (p : ℕ) → byte_at s p ≡ bracket_open → p < length s
bracket_within s p e = inside s p (λ z. omega arith)

module _ {s : List ℕ} {p : ℕ} where
  -- an item that begins with a bracket is an or-list in brackets, and the closing one lies within the text
  in_bracket : {deep q : ℕ} {v : Formula} → Stands s item deep p q v → byte_at s p ≡ bracket_open
      → (inner r : ℕ) × Stands s (list ors) inner (p + 1) r v × (r < length s)
  in_bracket (name a) e = absurd (name_or_bracket a e)
  in_bracket (bracketed {deep} {q} f x g) e = (deep, q, x, inside s q (λ z. omega arith))

  module _ {n : ℕ} (e : byte_at s p ≡ bracket_open) where
    -- within the brackets an or-list stands, with room for its marks
    pub bracket_asks : {room : ℕ} → Readable s item p n room → Readable s (list ors) (p + 1) n room
    bracket_asks a =
        let b = in_bracket a.stands e in
        record { deep = b.0; to = b.1; formula = a.formula; stands = b.2; fits = a.fits }

    module _ {old new : List ℕ} {r : Read} (m : Marked s (list ors) (p + 1) n old r new) where
      -- behind it a byte of the text stands
      pub bracket_ends : {room : ℕ} → Readable s item p n room → r.at < length s
      bracket_ends a =
          let b = in_bracket a.stands e in
          omega (arith, b.3, (m b.0 b.1 a.formula b.2).at)

      -- the item is read behind the closing bracket
      pub bracket_done : Marked s item p n old (read (r.at + 1) r.marked) new
      bracket_done deep q v (name a) = absurd (name_or_bracket a e)
      bracket_done deep q v (bracketed {deep = inner} {q = to} f x g) =
          let w = m inner to v x in
          record { at = ap (λ (k : ℕ). k + 1) w.at; marked = w.marked; marks = w.marks }

  -- the item is a name, and its column is its mark
  pub name_done : {n end column : ℕ} {old : List ℕ} → (byte_at s p ≡ bracket_open → ⊥) → n < length old
      → ((q to : ℕ) (columns : List Spot) → Words s columns_from to columns → length columns ≤ 16 → Run s p q
      → column ≡ column_in columns (spot s p q))
      → Run s p end → Marked s item p n old (read end (n + 1)) (set old n column)
  unfolding marks_in
  name_done {n} {end} {column} {old} none h is run deep q v (name a) = record {
    at = run_unique run a.run;
    marked = refl;
    marks = λ to columns words few.
        take_set old n column h ∙ ap (λ (x : ℕ). take n old ++ (x ∷ [])) (is q to columns words few a.run);
  }
  name_done none h is run deep q v (bracketed f x g) = absurd (none f)
