-- A text of the form without a fault: its counts, its names, and that its numbers are fit and mean what the text says. Assumes nothing.
use mathlib.Core.Path.{◌≡◌, refl, sym, ap}
use mathlib.Core.Bool.{Bool, true, false, not, cond}
use mathlib.Core.List.{List, [], ◌∷◌, ◌++◌, map, append-nil, append_assoc}
use Rattle.rules.proofs.Options.{Option, None, Some, map-eq-none_iff, none-ne-some, option_map}
use Prim.Native.Nat.{ℕ, zero, suc, ◌^◌, ◌≤◌, ◌<◌}
use native.Mathlib.Omega.{arith}
use lib.Dec.{ltb}
use lib.ListN.{length, get_or, take, drop, length-map}
use borrow.Author.Tests.{ne_eqb, ltb-true, lt-ltb, le-ltb, le-leb}
use Rattle.rules.specs.Lists.{every, any_of, first_of}
use Rattle.rules.specs.Sets.{most_columns, empty}
use Rattle.rules.specs.Marks.{and_mark}
use Rattle.rules.specs.Numbers.{most_forbidden, most_needs, most_column_marks, unfit, job_of}
use Rattle.rules.specs.Numbers.{columns_unfit, sets_too_many, set_unfit, needs_too_many}
use Rattle.rules.specs.Names.{Spot, Names, last_name, more_names, same_name}
use Rattle.rules.specs.Phrases.{Formula, names_in}
use Rattle.rules.specs.Texts.{Line, Lines, no_line, one_line, Sheet, OfForm}
use Rattle.rules.specs.Refusals.{name_unknown}
use Rattle.rules.specs.Sheets.{name_after, line_after, needs_over, first_over, column_named, stands_in, first_name_fault}
use Rattle.rules.specs.Sheets.{column_fault, need_fault, forbid_fault, lines_fault, names_fault, end_fault, sheet_fault}
use Rattle.rules.specs.Sheets.{column_in, set_with, marks_in, numbers_of, job_in}
use Rattle.rules.proofs.Lists.{and_parts, and_both, or_none}
use Rattle.rules.proofs.Searches.{else_none}
use Rattle.rules.proofs.Numbers.{clauses_fit}
use Rattle.rules.proofs.ListTests.{every_weaker, every_places, first_below}
use Rattle.rules.proofs.MarkedNeeds.{few_names, columns_below, lines_below, columns_more, lines_more, needs_in}
use Rattle.rules.proofs.MarkedNeeds.{rows_marks, marks_closed, marks_fit, needs_fit}
use Rattle.rules.proofs.SheetSets.{set_within, set_some}

-- a name of no byte, which stands past the last name
abbrev pub nowhere : Spot
nowhere = record { place = 0; name = [] }

-- ---- no fault is none of the faults

-- the clauses of refusals 3 to 6, none of which holds of a sheet without a fault
pub record Faultless (sheet : Sheet) : Type 0 where
  pub few_columns : name_after most_columns sheet.columns ≡ None
  pub few_forbids : line_after most_forbidden sheet.forbids ≡ None
  pub few_needs : needs_over most_needs sheet.needs ≡ None
  pub columns : first_name_fault column_fault [] sheet.columns ≡ None
  pub forbids : lines_fault (forbid_fault sheet.columns) (map (λ l. l.value) sheet.forbids) ≡ None
  pub needs : lines_fault (need_fault sheet.columns) (map (λ l. names_in l.value) sheet.needs) ≡ None
  pub ended : end_fault sheet ≡ None

-- a sheet without a fault breaks no clause
pub faultless : (sheet : Sheet) → sheet_fault sheet ≡ None → Faultless sheet
unfolding sheet_fault first_over names_fault
faultless sheet e =
    let a = else_none _ _ e in
    let b = else_none _ _ ((map-eq-none_iff _ _).0 a.0) in
    let c = else_none _ _ b.1 in
    let d = else_none _ _ a.1 in
    let f = else_none _ _ d.0 in
    let g = else_none _ _ f.1 in
    record { few_columns = b.0; few_forbids = c.0; few_needs = c.1; columns = f.0; forbids = g.0; needs = g.1; ended = d.1 }

-- ---- counts

-- with nothing after the first k there are at most k
pub none_after : {A : Type 0} (place : A → ℕ) (k : ℕ) (xs : List A) → option_map place (first_of (drop k xs)) ≡ None → length xs ≤ k
unfolding first_of
none_after place zero [] e = omega arith
none_after place zero (x ∷ xs) e = absurd (none-ne-some (place x) (sym e))
none_after place (suc k) [] e = omega arith
none_after place (suc k) (x ∷ xs) e = omega (arith, none_after place k xs e)

needs_few : (k : ℕ) (lines : List (Line Formula)) → needs_over k lines ≡ None → (length lines ≤ k) × (every few_names lines ≡ true)
unfolding needs_over name_after every
needs_few zero [] e = (omega arith, refl)
needs_few (suc k) [] e = (omega arith, refl)
needs_few zero (l ∷ lines) e = absurd (none-ne-some l.place (sym e))
needs_few (suc k) (l ∷ lines) e =
    let both = else_none _ _ e in
    let few = none_after (λ x. x.place) most_column_marks (names_in l.value) both.0 in
    let rest = needs_few k lines both.1 in
    (omega arith, and_both (few_names l) (every few_names lines) (le-leb (length (names_in l.value)) most_column_marks few) rest.1)

-- names joined by a sign are one or more
names_some : {s : List ℕ} {sign p q : ℕ} {spots : List Spot} → Names s sign p q spots → 0 < length spots
names_some (last_name n e) = omega arith
names_some (more_names n e names) = omega arith

-- how many columns, lines and names there are
pub record Counted (sheet : Sheet) : Type 0 where
  pub some_columns : 0 < length sheet.columns
  pub few_columns : length sheet.columns ≤ most_columns
  pub few_forbids : length sheet.forbids ≤ most_forbidden
  pub few_needs : length sheet.needs ≤ most_needs
  pub few_in_needs : every few_names sheet.needs ≡ true

-- a text without a fault has 1 to 16 columns, at most 32 forbid lines, at most 8 need lines, and at most 32 names in each of these
pub counts : (s : List ℕ) (sheet : Sheet) → OfForm s sheet → sheet_fault sheet ≡ None → Counted sheet
unfolding name_after line_after
counts s sheet form e =
    let clauses = faultless sheet e in
    let needs = needs_few most_needs sheet.needs clauses.few_needs in
    record {
      some_columns = names_some form.columns;
      few_columns = none_after (λ x. x.place) most_columns sheet.columns clauses.few_columns;
      few_forbids = none_after (λ l. l.place) most_forbidden sheet.forbids clauses.few_forbids;
      few_needs = needs.0;
      few_in_needs = needs.1;
    }

-- ---- names

-- where there is no fault, each name is tested against all names before it
pub no_fault : (fault : List Spot → Spot → Option ℕ) (before names : List Spot) → first_name_fault fault before names ≡ None
    → (j : ℕ) (d : Spot) → j < length names → fault (before ++ take j names) (get_or names j d) ≡ None
unfolding first_name_fault
no_fault fault before [] e j d h = absurd (omega arith)
no_fault fault before (x ∷ names) e zero d h = rw (append-nil before) ((map-eq-none_iff _ _).0 (else_none _ _ e).0)
no_fault fault before (x ∷ names) e (suc j) d h =
    rw (← append_assoc before (x ∷ []) (take j names)) (no_fault fault (before ++ (x ∷ [])) names (else_none _ _ e).1 j d (omega arith))

-- a test that holds of every name without a fault holds of all names of lines without a fault
module _
    (fault : List Spot → Spot → Option ℕ)
    (p : Spot → Bool)
    (right : (before : List Spot) (x : Spot) → fault before x ≡ None → p x ≡ true) where
  names_right : (names : List Spot) → first_name_fault fault [] names ≡ None → every p names ≡ true
  names_right names e = every_places p names nowhere (λ i h. right (take i names) (get_or names i nowhere) (no_fault fault [] names e i nowhere h))

  lines_right : {A : Type 0} (names : A → List Spot) (lines : List A) → lines_fault fault (map names lines) ≡ None
      → every (λ l. every p (names l)) lines ≡ true
  unfolding lines_fault every
  lines_right names [] e = refl
  lines_right names (l ∷ lines) e =
      let both = else_none _ _ e in
      and_both _ _ (names_right (names l) both.0) (lines_right names lines both.1)

need_known : (columns before : List Spot) (x : Spot) → need_fault columns before x ≡ None → stands_in columns x ≡ true
unfolding need_fault
need_known columns before x e = go (stands_in columns x) e
  where
    go : (b : Bool) → cond b None (Some name_unknown) ≡ None → b ≡ true
    go true q = refl
    go false q = absurd (none-ne-some name_unknown (sym q))

forbid_known : (columns before : List Spot) (x : Spot) → forbid_fault columns before x ≡ None → stands_in columns x ≡ true
unfolding forbid_fault
forbid_known columns before x e = need_known columns before x (else_none _ _ e).0

-- every name of every forbid and need line is a column
pub record Known (sheet : Sheet) : Type 0 where
  pub forbids : every (λ l. every (stands_in sheet.columns) l.value) sheet.forbids ≡ true
  pub needs : every (λ l. every (stands_in sheet.columns) (names_in l.value)) sheet.needs ≡ true

-- a text without a fault names no column that isn't there
pub known : (sheet : Sheet) → sheet_fault sheet ≡ None → Known sheet
known sheet e =
    let columns = sheet.columns in
    let clauses = faultless sheet e in
    record {
      forbids = lines_right (forbid_fault columns) (stands_in columns) (forbid_known columns) (λ l. l.value) sheet.forbids clauses.forbids;
      needs = lines_right (need_fault columns) (stands_in columns) (need_known columns) (λ l. names_in l.value) sheet.needs clauses.needs;
    }

-- the column of a known name is one of the columns
pub column_below : (columns : List Spot) (x : Spot) → stands_in columns x ≡ true → column_in columns x < length columns
unfolding stands_in column_in column_named
column_below columns x e = let r = first_below (λ c. same_name c.name x.name) columns e in rw r.1 r.2

-- so are the columns of known names
pub columns_below_lem : (columns names : List Spot) → every (stands_in columns) names ≡ true → columns_below columns (length columns) names ≡ true
columns_below_lem columns names =
    every_weaker (stands_in columns) (λ x. ltb (column_in columns x) (length columns)) names
    (λ x e. lt-ltb (column_in columns x) (length columns) (column_below columns x e))

-- the need lines of a text without a fault name columns that exist
pub needs_below : (sheet : Sheet) → sheet_fault sheet ≡ None → lines_below sheet.columns (length sheet.columns) sheet.needs ≡ true
needs_below sheet e =
    every_weaker (λ l. every (stands_in sheet.columns) (names_in l.value))
    (λ l. columns_below sheet.columns (length sheet.columns) (names_in l.value)) sheet.needs
    (λ l. columns_below_lem sheet.columns (names_in l.value)) (known sheet e).needs

-- so do its forbid lines
pub forbids_below : (sheet : Sheet) → sheet_fault sheet ≡ None
    → every (λ l. columns_below sheet.columns (length sheet.columns) l.value) sheet.forbids ≡ true
forbids_below sheet e =
    every_weaker (λ l. every (stands_in sheet.columns) l.value)
    (λ l. columns_below sheet.columns (length sheet.columns) l.value) sheet.forbids
    (λ l. columns_below_lem sheet.columns l.value) (known sheet e).forbids

-- ---- the numbers

-- lines of names have a name each
lines_some : {s key : List ℕ} {sign p q : ℕ} {lines : List (Line (List Spot))} → Lines s key (Names s sign) p q lines
    → every (λ l. ltb 0 (length l.value)) lines ≡ true
unfolding every
lines_some (no_line n) = refl
lines_some (one_line k names e more) = and_both _ _ (lt-ltb 0 _ (names_some names)) (lines_some more)

-- sets of known names are fit
sets_fit : (columns : List Spot) (lines : List (Line (List Spot))) → length columns ≤ most_columns
    → every (λ l. ltb 0 (length l.value)) lines ≡ true → every (λ l. columns_below columns (length columns) l.value) lines ≡ true
    → any_of (set_unfit (length columns)) (map (λ l. set_with columns empty l.value) lines) ≡ false
unfolding any_of every set_unfit
sets_fit columns [] most full below = refl
sets_fit columns (l ∷ lines) most full below =
    let s = set_with columns empty l.value in
    let named = and_parts _ _ full in
    let low = and_parts _ _ below in
    let lower = columns_more columns (length columns) most_columns l.value most low.0 in
    let there = set_some columns l.value (ltb-true 0 (length l.value) named.0) lower in
    let inside = set_within columns (length columns) l.value most low.0 in
    or_none _ _ (or_none _ _ (ne_eqb s 0 there) (ap not (lt-ltb s (2 ^ length columns) inside)))
    (sets_fit columns lines most named.1 low.1)

-- the numbers read are fit
pub sheet_fit : (s : List ℕ) (sheet : Sheet) → OfForm s sheet → sheet_fault sheet ≡ None → unfit (numbers_of sheet) ≡ false
unfolding numbers_of columns_unfit sets_too_many needs_too_many
sheet_fit s sheet form e =
    let counted = counts s sheet form e in
    let n = length sheet.columns in
    let some_column = counted.some_columns in
    let low = needs_below sheet e in
    let lower = lines_more sheet.columns n and_mark sheet.needs counted.few_columns low in
    let are = rows_marks sheet.columns sheet.needs lower in
    let many = length-map sheet.needs (λ l. marks_in sheet.columns l.value) in
    let sets = length-map sheet.forbids (λ l. set_with sheet.columns empty l.value) in
    clauses_fit (numbers_of sheet)
    (record {
      columns = or_none _ _ (ne_eqb n 0 (λ z. omega arith)) (le-ltb most_columns n counted.few_columns);
      few_sets = rw sets (le-ltb most_forbidden (length sheet.forbids) counted.few_forbids);
      sets = sets_fit sheet.columns sheet.forbids counted.few_columns (lines_some form.forbids) (forbids_below sheet e);
      closed = marks_closed sheet.columns sheet.needs;
      needs = rw are (needs_fit sheet.columns sheet.needs lower counted.few_in_needs);
      marks = marks_fit sheet.columns n sheet.needs counted.few_columns low;
      few_needs = rw (are, many) (le-ltb most_needs (length sheet.needs) counted.few_needs);
    })

-- and mean what the text says
pub sheet_job : (s : List ℕ) (sheet : Sheet) → OfForm s sheet → sheet_fault sheet ≡ None
    → job_of (numbers_of sheet) ≡ Some (job_in sheet)
unfolding job_of numbers_of
sheet_job s sheet form e =
    let few = (counts s sheet form e).few_columns in
    let low = lines_more sheet.columns (length sheet.columns) and_mark sheet.needs few (needs_below sheet e) in
    rw (sheet_fit s sheet form e, rows_marks sheet.columns sheet.needs low, needs_in sheet.columns sheet.needs low)
