-- In a text of the form the places of names and lines rise. Assumes nothing.
use mathlib.Core.Path.{◌≡◌, refl, ap, subst, subst⁻¹}
use mathlib.Core.List.Memᴰ
use mathlib.Core.List.{List, [], ◌∷◌, ◌++◌, Memᴰ}
use Prim.Native.Nat.{ℕ, zero, suc, ◌+◌, ◌<◌, ◌≤◌}
use native.Mathlib.Nat.{le_refl}
use native.Mathlib.Omega.{arith}
use lib.ListN.{length, drop}
use Rattle.rules.specs.Names.{Spot, Names, last_name, more_names}
use Rattle.rules.specs.Phrases.{Formula, names_in, Join, ors, ands, join_of, Kind, item, list, rest, operand}
use Rattle.rules.specs.Phrases.{Stands, first, last, next, name, bracketed}
use Rattle.rules.specs.Texts.{Line, Lines, no_line, one_line, Number, one_digit, two_digits, Sheet, OfForm}
use Rattle.rules.proofs.Names.{name_some}

-- ---- places that rise

module _ {A : Type 0} (place : A → ℕ) where
  -- the places of these lie from p to before q, each below the next
  pub data Rise : ℕ → ℕ → List A → Type 0 where
    nothing : {p q : ℕ} → p ≤ q → Rise p q []
    onward : {p q : ℕ} {x : A} {xs : List A} → p ≤ place x → Rise (suc (place x)) q xs → Rise p q (x ∷ xs)

  -- what rises from a place to a place rises from every earlier one to every later one
  pub rise_wider : {p p' q q' : ℕ} {xs : List A} → p ≤ p' → q' ≤ q → Rise p' q' xs → Rise p q xs
  rise_wider {p} {q} l m (nothing n) = let h : p ≤ q = omega arith in nothing h
  rise_wider {p} l m (onward {x} n r) = let h : p ≤ place x = omega arith in onward h (rise_wider {p = suc (place x)} {p' = suc (place x)} (le_refl _) m r)

  -- what rises goes forward
  pub rise_forward : {p q : ℕ} {xs : List A} → Rise p q xs → p ≤ q
  rise_forward (nothing l) = l
  rise_forward (onward l x) = omega (arith, rise_forward x)

  -- of what rises from p to before q each place lies from p to before q
  pub rise_within : {p q : ℕ} {y : A} {xs : List A} → Rise p q xs → Memᴰ y xs → (p ≤ place y) × (place y < q)
  rise_within {y} (onward {x} l r) (Memᴰ.head e) =
      let f = rise_forward r in
      let h : place y ≡ place x = ap place e in
      (omega arith, omega arith)
  rise_within (onward l r) (Memᴰ.tail m) = let h = rise_within r m in (omega arith, omega arith)
  rise_within {y = y} (nothing {p = p} {q = q} _) m = elim m [ ]

  -- what rises to a place and from there on rises
  pub rise_append : {p r q : ℕ} {xs ys : List A} → Rise p r xs → Rise r q ys → Rise p q (xs ++ ys)
  rise_append (nothing l) y = rise_wider l (le_refl _) y
  rise_append (onward l x) y = onward l (rise_append x y)

  -- without the first k it still rises
  pub rise_drop : (k : ℕ) {p q : ℕ} {xs : List A} → Rise p q xs → Rise p q (drop k xs)
  rise_drop zero r = r
  rise_drop (suc k) (nothing l) = nothing l
  rise_drop (suc k) {p} (onward {x} l r) = let h : p ≤ suc (place x) = omega arith in rise_drop k (rise_wider h (le_refl _) r)

  -- of what rises one before another has the smaller place
  pub rise_before : {p q : ℕ} {y : A} (before : List A) (x : A) (after : List A) → Rise p q (before ++ (x ∷ after)) → Memᴰ y before
      → place y < place x
  rise_before (z ∷ before) x after (onward l r) (Memᴰ.head e) =
      omega (arith, (rise_within r (Memᴰ.append_right before (Memᴰ.head refl))).0, ap place e)
  rise_before {p} (z ∷ before) x after (onward l r) (Memᴰ.tail m) = rise_before {p = suc (place z)} before x after r m
  rise_before {p = p} {q = q} {y = y} [] x after _ m = elim m [ ]

-- the places of names rise
abbrev pub NamesRise : ℕ → ℕ → List Spot → Type 0
NamesRise = Rise (λ (x : Spot). x.place)

module _ {A : Type 0} (names_at : A → List Spot) where
  -- lines rise from p to before q: after each line's place its names rise, and then the next lines
  pub data LinesRise : ℕ → ℕ → List (Line A) → Type 0 where
    no_lines : {p q : ℕ} → p ≤ q → LinesRise p q []
    next_line : {p r q : ℕ} {l : Line A} {lines : List (Line A)} → p ≤ l.place → NamesRise (suc l.place) r (names_at l.value)
        → LinesRise r q lines → LinesRise p q (l ∷ lines)

  -- of lines that rise the places rise
  pub lines_places : {p q : ℕ} {lines : List (Line A)} → LinesRise p q lines → Rise (λ (l : Line A). l.place) p q lines
  lines_places (no_lines l) = nothing l
  lines_places (next_line l n x) = onward l (rise_wider _ (rise_forward _ n) (le_refl _) (lines_places x))

  -- of lines that rise from p to before q each name's place lies from p to before q
  pub lines_names : {p q : ℕ} {l : Line A} {x : Spot} {lines : List (Line A)} → LinesRise p q lines → Memᴰ l lines
      → Memᴰ x (names_at l.value) → (p ≤ x.place) × (x.place < q)
  lines_names {l} {x} (next_line k n r) (Memᴰ.head e) i =
      let f = rise_forward _ (lines_places r) in
      let h = rise_within _ n (subst (λ (k : Line A). Memᴰ x (names_at k.value)) e i) in
      (omega arith, omega arith)
  lines_names (next_line k n r) (Memᴰ.tail m) i =
      let f = rise_forward _ n in
      let h = lines_names r m i in
      (omega arith, omega arith)
  lines_names {l = l} {x = x} (no_lines {p = p} {q = q} _) m i = elim m [ ]

  -- of lines that rise the names of each do
  pub line_rises : {p q : ℕ} {l : Line A} {lines : List (Line A)} → LinesRise p q lines → Memᴰ l lines
      → (from : ℕ) × (to : ℕ) × NamesRise from to (names_at l.value)
  line_rises (next_line {r} {l} k n more) (Memᴰ.head e) =
      (suc l.place, r, subst⁻¹ (λ (k : Line A). NamesRise (suc l.place) r (names_at k.value)) e n)
  line_rises (next_line k n more) (Memᴰ.tail m) = line_rises more m
  line_rises {l = l} (no_lines {p = p} {q = q} _) m = elim m [ ]

-- ---- names, phrases, lines

-- the places of names joined by a sign rise
pub names_rise : {s : List ℕ} {sign p q : ℕ} {xs : List Spot} → Names s sign p q xs → NamesRise p q xs
names_rise (last_name a n) = onward (le_refl _) (nothing (name_some a))
names_rise (more_names {p} {r} a e x) =
    let l = name_some a in
    let h : suc p ≤ r + 1 = omega arith in
    onward (le_refl _) (rise_wider _ h (le_refl _) (names_rise x))

-- the names of an item or a list rise; those of what follows the operands read rise if the operands' names do
abbrev pub PhraseRises : Kind → ℕ → ℕ → Formula → Type 0
PhraseRises item p q v = NamesRise p q (names_in v)
PhraseRises (list j) p q v = NamesRise p q (names_in v)
PhraseRises (rest j u) p q v = (from : ℕ) → NamesRise from p (names_in u) → NamesRise from q (names_in v)

operand_rises : (j : Join) (p q : ℕ) (v : Formula) → PhraseRises (operand j) p q v → NamesRise p q (names_in v)
operand_rises ors p q v h = h
operand_rises ands p q v h = h

join_rises : (j : Join) {p r q : ℕ} (u v : Formula) → NamesRise p r (names_in u) → NamesRise r q (names_in v) → NamesRise p q (names_in (join_of j u v))
unfolding names_in
join_rises ors u v a b = rise_append _ a b
join_rises ands u v a b = rise_append _ a b

-- the places of a phrase's names rise
pub phrase_rises : {s : List ℕ} {kind : Kind} {deep p q : ℕ} {v : Formula} → Stands s kind deep p q v → PhraseRises kind p q v
unfolding names_in
phrase_rises (first {j} {p} {r} {v} a x) = phrase_rises x p (operand_rises j p r v (phrase_rises a))
phrase_rises (last n) = λ from h. h
phrase_rises (next {j} {p} {r} {u} {v} e a x) =
    let l : p ≤ p + 1 = omega arith in
    λ from h. phrase_rises x from (join_rises j u v h (rise_wider _ l (le_refl _) (operand_rises j (p + 1) r v (phrase_rises a))))
phrase_rises (name a) = onward (le_refl _) (nothing (name_some a))
phrase_rises (bracketed {p} {q} e x f) =
    let l : p ≤ p + 1 = omega arith in
    let m : q ≤ q + 1 = omega arith in
    rise_wider _ l m (phrase_rises x)

module _ {A : Type 0} {s key : List ℕ} {Value : ℕ → ℕ → A → Type 0} (names_at : A → List Spot) (some : 0 < length key)
    (values : (p q : ℕ) (a : A) → Value p q a → NamesRise p q (names_at a)) where
  -- lines whose values' names rise rise
  pub lines_rise : {p q : ℕ} {lines : List (Line A)} → Lines s key Value p q lines → LinesRise names_at p q lines
  lines_rise (no_line n) = no_lines (le_refl _)
  lines_rise (one_line {p} {r} h v e x) =
      let l : suc p ≤ p + length key = omega arith in
      let m : r ≤ r + 1 = omega arith in
      next_line (le_refl _) (rise_wider _ l m (values _ _ _ v)) (lines_rise x)

-- ---- the text

-- the places of a text's columns rise, then those of its forbid lines with their names, then those of its need lines with theirs
pub record SheetRises (sheet : Sheet) : Type 0 where
  pub forbids_from : ℕ
  pub needs_from : ℕ
  pub end_from : ℕ
  pub columns_rise : NamesRise 0 forbids_from sheet.columns
  pub forbids_rise : LinesRise (λ (v : List Spot). v) forbids_from needs_from sheet.forbids
  pub needs_rise : LinesRise names_in needs_from end_from sheet.needs

-- in a text of the form the places rise
pub sheet_rises : {s : List ℕ} {sheet : Sheet} → OfForm s sheet → SheetRises sheet
sheet_rises f =
    record {
      forbids_from = f.columns_to + 1;
      needs_from = f.needs_from;
      end_from = f.end_from;
      columns_rise = rise_wider _ (omega arith) (omega arith) (names_rise f.columns);
      forbids_rise = lines_rise (λ (v : List Spot). v) (omega arith) (λ p q a. names_rise) f.forbids;
      needs_rise = lines_rise names_in (omega arith) (λ p q a. phrase_rises) f.needs;
    }

number_some : {s : List ℕ} {p q n : ℕ} → Number s p q n → p < q
number_some (one_digit d) = omega arith
number_some (two_digits d z c) = omega arith

-- the end line's number stands behind all of them, and within the text
pub sheet_ends : {s : List ℕ} {sheet : Sheet} (f : OfForm s sheet)
    → ((sheet_rises f).end_from ≤ sheet.ended.place) × (sheet.ended.place < length s)
unfolding sheet_rises
sheet_ends f = let n = number_some f.number in (omega (arith, f.ended), omega (arith, f.ended, f.whole))
