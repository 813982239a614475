-- More than there may be: what is left of a count. Assumes nothing.
use mathlib.Core.Path.{◌≡◌, refl, sym, ◌∙◌}
use mathlib.Core.List.{List, [], ◌∷◌, map}
use Rattle.rules.proofs.Options.{None, Some, option_or, map-eq-none_iff, option_map}
use Prim.Native.Nat.{ℕ, zero, suc, ◌+◌, ◌-◌, ◌<◌}
use native.Mathlib.Omega.{arith}
use Rattle.rules.specs.Lists.{first_of}
use Rattle.rules.specs.Numbers.{most_column_marks}
use Rattle.rules.specs.Refusals.{too_many_parts}
use Rattle.rules.specs.Names.{Spot}
use Rattle.rules.specs.Phrases.{Formula, names_in}
use Rattle.rules.specs.Texts.{Line, line}
use Rattle.rules.specs.Sheets.{Refusal, refusal, name_after, line_after, needs_over}
use Rattle.faults.specs.Kinds.{rows_over}
use Rattle.faults.proofs.Refusing.{first_there, map_first}

-- when all that may stand were counted the next name is the one after them
pub name_after_lem : (most count : ℕ) (x : Spot) (names : List Spot) → count ≡ most → name_after (most - count) (x ∷ names) ≡ Some x.place
unfolding name_after first_of
name_after_lem most count x names e = let z : most - count ≡ 0 = omega arith in rw z

-- so is the next line
pub line_after_lem : (most count : ℕ) (l : Line (List Spot)) (lines : List (Line (List Spot))) → count ≡ most
    → line_after (most - count) (l ∷ lines) ≡ Some l.place
unfolding line_after first_of
line_after_lem most count l lines e = let z : most - count ≡ 0 = omega arith in rw z

-- of no need line nothing is too many
pub no_row_over : (k : ℕ) → rows_over k [] ≡ None
unfolding rows_over
no_row_over k = refl

-- when all that may stand were counted the next need line is too many
pub row_over : (most count : ℕ) (l : Line (List Spot)) (lines : List (Line (List Spot))) → count ≡ most
    → rows_over (most - count) (l ∷ lines) ≡ Some l.place
unfolding rows_over
row_over most count l lines e = let z : most - count ≡ 0 = omega arith in rw z

-- else it counts as one of them, and its names may be too many
row_counted : (most count : ℕ) (l : Line (List Spot)) (lines : List (Line (List Spot))) → count < most
    → rows_over (most - count) (l ∷ lines) ≡ option_or (name_after most_column_marks l.value) (rows_over (most - (count + 1)) lines)
unfolding rows_over
row_counted most count l lines h = let e : most - count ≡ suc (most - (count + 1)) = omega arith in rw e

module _ (most count : ℕ) (l : Line (List Spot)) (lines : List (Line (List Spot))) (h : count < most) where
  -- a name of the first line is too many
  pub row_refused : {x : Refusal} → Some x ≡ option_map (refusal too_many_parts) (name_after most_column_marks l.value)
      → Some x ≡ option_map (refusal too_many_parts) (rows_over (most - count) (l ∷ lines))
  row_refused e =
      let later = rows_over (most - (count + 1)) lines in
      rw (row_counted most count l lines h, map_first (refusal too_many_parts) (name_after most_column_marks l.value) later) (first_there e _)

  -- or none is
  pub row_passed : None ≡ option_map (refusal too_many_parts) (name_after most_column_marks l.value)
      → rows_over (most - count) (l ∷ lines) ≡ rows_over (most - (count + 1)) lines
  row_passed e =
      let none_over = (map-eq-none_iff (refusal too_many_parts) (name_after most_column_marks l.value)).0 (sym e) in
      row_counted most count l lines h ∙ rw none_over

-- need lines and the lines of their names
pub needs_rows : (k : ℕ) (lines : List (Line Formula)) → needs_over k lines ≡ rows_over k (map (λ l. line l.place (names_in l.value)) lines)
unfolding needs_over rows_over
needs_rows k [] = refl
needs_rows zero (l ∷ lines) = refl
needs_rows (suc k) (l ∷ lines) = rw (needs_rows k lines)
