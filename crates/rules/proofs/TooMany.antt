-- Going through a text of the form from its beginning finds the smallest place of what is too many. Assumes nothing.
use mathlib.Core.Path.{◌≡◌, refl, sym, ap, subst, ◌∙◌}
use mathlib.Core.Logic.{◌⊎◌, inl, inr}
use mathlib.Core.List.{List, [], ◌∷◌, Memᴰ}
use Rattle.rules.proofs.Options.{Option, None, Some, option_map, none-ne-some}
use Prim.Native.Nat.{ℕ, zero, suc, ◌<◌, ◌≤◌}
use native.Mathlib.Omega.{arith}
use lib.ListN.{length, drop}
use Rattle.rules.specs.Lists.{first_of}
use Rattle.rules.specs.Sets.{most_columns}
use Rattle.rules.specs.Numbers.{most_forbidden, most_needs, most_column_marks}
use Rattle.rules.specs.Names.{Spot}
use Rattle.rules.specs.Phrases.{Formula, names_in}
use Rattle.rules.specs.Texts.{Line, Sheet, OfForm}
use Rattle.rules.specs.Sheets.{name_after, line_after, needs_over, first_over}
use Rattle.rules.specs.SheetFaults.{IsOver, column_over, forbid_over, need_over, name_over}
use Rattle.rules.proofs.Lists.{drop_in}
use Rattle.rules.proofs.Searches.{else_none}
use Rattle.rules.proofs.Smallest.{NoneMissed, Smallest, smallest_none, smallest_some, smallest_else}
use Rattle.rules.proofs.Places.{Rise, nothing, onward, rise_forward, rise_within, rise_drop, LinesRise, no_lines, next_line}
use Rattle.rules.proofs.Places.{lines_places, lines_names, SheetRises, sheet_rises, sheet_ends}

module _ {A : Type 0} (place : A → ℕ) where
  -- the place of one of these
  data PlaceIn (xs : List A) : ℕ → Type 0 where
    place_in : {x : A} → Memᴰ x xs → PlaceIn xs (place x)

  first_place_none : (xs : List A) → NoneMissed (PlaceIn xs) (option_map place (first_of xs))
  unfolding first_of
  first_place_none [] e y (place_in m) = elim m [ ]
  first_place_none (x ∷ xs) e y h = absurd (none-ne-some (place x) (sym e))

  first_place_smallest : {p q : ℕ} {xs : List A} → Rise place p q xs → Smallest (λ (n : ℕ). n) (PlaceIn xs) (option_map place (first_of xs))
  unfolding first_of
  first_place_smallest (nothing l) = smallest_none _ _
  first_place_smallest (onward {x} {xs} l r) = smallest_some _ _ (place x) (place_in (Memᴰ.head refl)) go
    where
      go : (y : ℕ) → PlaceIn (x ∷ xs) y → (place x ≡ y) ⊎ (place x < y)
      go y (place_in (Memᴰ.head e)) = inl (sym (ap place e))
      go y (place_in (Memᴰ.tail m)) = inr (rise_within place r m).0

  place_within : {p q n : ℕ} {xs : List A} → Rise place p q xs → PlaceIn xs n → (p ≤ n) × (n < q)
  place_within r (place_in m) = rise_within place r m

-- too many in need lines of which k may stand
data NeedOver (k : ℕ) (lines : List (Line Formula)) : ℕ → Type 0 where
  line_over : {l : Line Formula} → Memᴰ l (drop k lines) → NeedOver k lines l.place
  in_line : {l : Line Formula} {x : Spot} → Memᴰ l lines → Memᴰ x (drop most_column_marks (names_in l.value)) → NeedOver k lines x.place

-- a line's names too many are those of the same line
same_names : {l l' : Line Formula} {x : Spot} → l ≡ l' → Memᴰ x (drop most_column_marks (names_in l.value))
    → Memᴰ x (drop most_column_marks (names_in l'.value))
same_names {x} e m = subst (λ (l : Line Formula). Memᴰ x (drop most_column_marks (names_in l.value))) e m

need_within : {p q k n : ℕ} {lines : List (Line Formula)} → LinesRise names_in p q lines → NeedOver k lines n → (p ≤ n) × (n < q)
need_within {k} {lines} r (line_over m) = rise_within _ (lines_places _ r) (drop_in k lines m)
need_within r (in_line {l} m i) = lines_names _ r m (drop_in most_column_marks (names_in l.value) i)

needs_none : (k : ℕ) (lines : List (Line Formula)) → NoneMissed (NeedOver k lines) (needs_over k lines)
unfolding needs_over name_after
needs_none k [] e y (line_over m) = elim (drop_in k [] m) [ ]
needs_none k [] e y (in_line m i) = elim m [ ]
needs_none zero (l ∷ lines) e y h = absurd (none-ne-some l.place (sym e))
needs_none (suc k) (l ∷ lines) e y (line_over m) = needs_none k lines (else_none _ _ e).1 y (line_over m)
needs_none (suc k) (l ∷ lines) e y (in_line (Memᴰ.head q) i) = first_place_none _ _ (else_none _ _ e).0 y (place_in (same_names q i))
needs_none (suc k) (l ∷ lines) e y (in_line (Memᴰ.tail m) i) = needs_none k lines (else_none _ _ e).1 y (in_line m i)

needs_smallest : {p q : ℕ} {lines : List (Line Formula)} → LinesRise names_in p q lines → (k : ℕ)
    → Smallest (λ (n : ℕ). n) (NeedOver k lines) (needs_over k lines)
unfolding needs_over name_after
needs_smallest (no_lines h) k = smallest_none _ _
needs_smallest (next_line {l} {lines} h n r) zero = smallest_some _ _ l.place (line_over (Memᴰ.head refl)) go
  where
    later : (y : ℕ) → NeedOver 0 lines y → l.place < y
    later y i = let f = rise_forward _ n in omega (arith, (need_within r i).0)

    go : (y : ℕ) → NeedOver 0 (l ∷ lines) y → (l.place ≡ y) ⊎ (l.place < y)
    go y (line_over (Memᴰ.head e)) = inl (sym (ap (λ (k : Line Formula). k.place) e))
    go y (line_over (Memᴰ.tail m)) = inr (later y (line_over m))
    go y (in_line (Memᴰ.head e) i) = inr (rise_within _ (rise_drop _ most_column_marks n) (same_names e i)).0
    go y (in_line (Memᴰ.tail m) i) = inr (later y (in_line m i))
needs_smallest (next_line {l} {lines} h n r) (suc k) =
    smallest_else (λ (n : ℕ). n) (PlaceIn (λ (x : Spot). x.place) names) (NeedOver k lines) (NeedOver (suc k) (l ∷ lines)) _ _
    (first_place_smallest _ (rise_drop _ most_column_marks n)) (first_place_none _ names) (needs_smallest r k) less into from
  where
    names : List Spot
    names = drop most_column_marks (names_in l.value)

    less : (x y : ℕ) → PlaceIn (λ (x : Spot). x.place) names x → NeedOver k lines y → x < y
    less x y a b =
        let u = place_within _ (rise_drop _ most_column_marks n) a in
        let w = need_within r b in
        omega arith

    into : (y : ℕ) → PlaceIn (λ (x : Spot). x.place) names y ⊎ NeedOver k lines y → NeedOver (suc k) (l ∷ lines) y
    into y (inl (place_in m)) = in_line (Memᴰ.head refl) m
    into y (inr (line_over m)) = line_over m
    into y (inr (in_line m i)) = in_line (Memᴰ.tail m) i

    from : (y : ℕ) → NeedOver (suc k) (l ∷ lines) y → PlaceIn (λ (x : Spot). x.place) names y ⊎ NeedOver k lines y
    from y (line_over m) = inr (line_over m)
    from y (in_line (Memᴰ.head e) i) = inl (place_in (same_names e i))
    from y (in_line (Memᴰ.tail m) i) = inr (in_line m i)

abbrev LateColumn : Sheet → ℕ → Type 0
LateColumn sheet = PlaceIn (λ (x : Spot). x.place) (drop most_columns sheet.columns)

abbrev LateForbid : Sheet → ℕ → Type 0
LateForbid sheet = PlaceIn (λ (l : Line (List Spot)). l.place) (drop most_forbidden sheet.forbids)

abbrev LateNeed : Sheet → ℕ → Type 0
LateNeed sheet = NeedOver most_needs sheet.needs

is_over : (sheet : Sheet) (n : ℕ) → LateColumn sheet n ⊎ (LateForbid sheet n ⊎ LateNeed sheet n) → IsOver sheet n
is_over sheet n (inl (place_in m)) = column_over m
is_over sheet n (inr (inl (place_in m))) = forbid_over m
is_over sheet n (inr (inr (line_over m))) = need_over m
is_over sheet n (inr (inr (in_line m i))) = name_over m i

over_is : (sheet : Sheet) (n : ℕ) → IsOver sheet n → LateColumn sheet n ⊎ (LateForbid sheet n ⊎ LateNeed sheet n)
over_is sheet n (column_over m) = inl (place_in m)
over_is sheet n (forbid_over m) = inr (inl (place_in m))
over_is sheet n (need_over m) = inr (inr (line_over m))
over_is sheet n (name_over m i) = inr (inr (in_line m i))

-- where nothing is found to be too many nothing is
pub over_none : (sheet : Sheet) (q : ℕ) → first_over sheet ≡ None → IsOver sheet q → ⊥
unfolding first_over name_after line_after
over_none sheet q e h = go (over_is sheet q h)
  where
    go : LateColumn sheet q ⊎ (LateForbid sheet q ⊎ LateNeed sheet q) → ⊥
    go (inl i) = first_place_none _ _ (else_none _ _ e).0 q i
    go (inr (inl i)) = first_place_none _ _ (else_none _ _ (else_none _ _ e).1).0 q i
    go (inr (inr i)) = needs_none _ _ (else_none _ _ (else_none _ _ e).1).1 q i

-- in a text of the form the place found is that of something too many, and the smallest such place
pub over_smallest : {s : List ℕ} (sheet : Sheet) (p : ℕ) → OfForm s sheet → first_over sheet ≡ Some p → IsOver sheet p × ((q : ℕ) → IsOver sheet q → p ≤ q)
unfolding first_over name_after line_after
over_smallest sheet p form e = let t = found p e in (t.0, λ q h. least q (t.1 q h))
  where
    rises : SheetRises sheet
    rises = sheet_rises form

    columns : Rise (λ (x : Spot). x.place) 0 rises.forbids_from (drop most_columns sheet.columns)
    columns = rise_drop _ most_columns rises.columns_rise

    forbids : Rise (λ (l : Line (List Spot)). l.place) rises.forbids_from rises.needs_from (drop most_forbidden sheet.forbids)
    forbids = rise_drop _ most_forbidden (lines_places _ rises.forbids_rise)

    late : (x y : ℕ) → LateForbid sheet x → LateNeed sheet y → x < y
    late x y i j =
        let u = place_within _ forbids i in
        let w = need_within rises.needs_rise j in
        omega arith

    later : (x y : ℕ) → LateColumn sheet x → LateForbid sheet y ⊎ LateNeed sheet y → x < y
    later x y i (inl j) =
        let u = place_within _ columns i in
        let w = place_within _ forbids j in
        omega arith
    later x y i (inr j) =
        let u = place_within _ columns i in
        let f = rise_forward _ forbids in
        let w = need_within rises.needs_rise j in
        omega arith

    found : Smallest (λ (n : ℕ). n) (IsOver sheet) (first_over sheet)
    found =
        smallest_else _ (LateColumn sheet) (λ (n : ℕ). LateForbid sheet n ⊎ LateNeed sheet n) (IsOver sheet) _ _ (first_place_smallest _ columns)
        (first_place_none _ _)
        (smallest_else _ (LateForbid sheet) (LateNeed sheet) (λ (n : ℕ). LateForbid sheet n ⊎ LateNeed sheet n) _ _ (first_place_smallest _ forbids)
        (first_place_none _ _) (needs_smallest rises.needs_rise most_needs) late (λ x h. h) (λ x h. h))
        later (is_over sheet) (over_is sheet)

    least : (q : ℕ) → (p ≡ q) ⊎ (p < q) → p ≤ q
    least q (inl h) = omega arith
    least q (inr h) = omega arith

-- so the smallest such place is the one that is found
pub over_found : {s : List ℕ} {sheet : Sheet} {p : ℕ} → OfForm s sheet → IsOver sheet p → ((q : ℕ) → IsOver sheet q → p ≤ q) → first_over sheet ≡ Some p
over_found {sheet} {p} form a b = go (first_over sheet) refl
  where
    go : (o : Option ℕ) → first_over sheet ≡ o → first_over sheet ≡ Some p
    go None e = absurd (over_none sheet p e a)
    go (Some q) e =
        let least = over_smallest sheet q form e in
        let same : q ≡ p = omega (arith, b q least.0, least.1 p a) in
        e ∙ ap (λ (k : ℕ). Some k) same

-- in a text of the form what is too many stands within the text
pub over_within : {s : List ℕ} (sheet : Sheet) (p : ℕ) → OfForm s sheet → IsOver sheet p → p < length s
over_within {s} sheet p form h = go (over_is sheet p h)
  where
    rises : SheetRises sheet
    rises = sheet_rises form

    forbids : rises.forbids_from ≤ rises.needs_from
    forbids = rise_forward _ (lines_places _ rises.forbids_rise)

    needs : rises.needs_from ≤ rises.end_from
    needs = rise_forward _ (lines_places _ rises.needs_rise)

    go : LateColumn sheet p ⊎ (LateForbid sheet p ⊎ LateNeed sheet p) → p < length s
    go (inl i) =
        omega (arith, forbids, needs, sheet_ends form, place_within _ (rise_drop _ most_columns rises.columns_rise) i)
    go (inr (inl i)) =
        omega (arith, needs, sheet_ends form, place_within _ (rise_drop _ most_forbidden (lines_places _ rises.forbids_rise)) i)
    go (inr (inr i)) = omega (arith, sheet_ends form, need_within rises.needs_rise i)
