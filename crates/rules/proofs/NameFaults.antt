-- Going through the names of a text of the form from its beginning finds the name at fault with the smallest place. Assumes nothing.
use mathlib.Core.Path.{◌≡◌, refl, sym, ap, subst, ◌∙◌}
use mathlib.Core.Logic.{◌⊎◌, inl, inr}
use mathlib.Core.Bool.{Bool, true, false, cond}
use mathlib.Core.List.{List, [], ◌∷◌, ◌++◌, map, Memᴰ, append-nil, append_assoc}
use Rattle.rules.proofs.Options.{Option, None, Some, option_or, some-injective, none-ne-some, map-eq-none_iff, option_map}
use Prim.Native.Nat.{ℕ, ◌<◌, ◌≤◌}
use native.Mathlib.Omega.{arith}
use lib.ListN.{length}
use Rattle.rules.specs.Refusals.{name_twice, name_unknown}
use Rattle.rules.specs.Names.{Spot, same_name}
use Rattle.rules.specs.Phrases.{Formula, names_in}
use Rattle.rules.specs.Texts.{Line, Sheet, OfForm}
use Rattle.rules.specs.Sheets.{Refusal, refusal, stands_in, first_name_fault, column_fault, need_fault, forbid_fault, lines_fault, names_fault}
use Rattle.rules.specs.SheetFaults.{Among, IsFault, column_twice, forbid_unknown, forbid_twice, need_unknown}
use Rattle.rules.proofs.Lists.{holds_fails, not_holds, any_one, any_in, in_middle}
use Rattle.rules.proofs.Searches.{else_none}
use Rattle.rules.proofs.Smallest.{NoneMissed, Smallest, smallest_none, smallest_some, smallest_else}
use Rattle.rules.proofs.Places.{nothing, onward, rise_forward, NamesRise, LinesRise, no_lines, next_line, lines_places}
use Rattle.rules.proofs.Places.{SheetRises, sheet_rises, sheet_ends}

-- a name of which the test says so stands among these
pub stands_among : (names : List Spot) (x : Spot) → stands_in names x ≡ true → Among names x
unfolding stands_in
stands_among names x e = let t = any_one _ names e in record { one = t.0; stands = t.1; same = t.2 }

-- of a name that stands among these the test says so
pub among_stands : (names : List Spot) (x : Spot) → Among names x → stands_in names x ≡ true
unfolding stands_in
among_stands names x a = any_in (λ (c : Spot). same_name c.name x.name) a.stands a.same

-- ---- a search by one test

module _ (fault : List Spot → Spot → Option ℕ) where
  -- a fault of one of these names, which stand after the names before them
  data FaultIn : List Spot → List Spot → Refusal → Type 0 where
    now : {before names : List Spot} {x : Spot} {n : ℕ} → fault before x ≡ Some n → FaultIn before (x ∷ names) (refusal n x.place)
    later : {before names : List Spot} {x : Spot} {f : Refusal} → FaultIn (before ++ (x ∷ [])) names f → FaultIn before (x ∷ names) f

  fault_within : {p q : ℕ} {before names : List Spot} {f : Refusal} → NamesRise p q names → FaultIn before names f → (p ≤ f.place) × (f.place < q)
  fault_within (onward l r) (now e) = (l, rise_forward _ r)
  fault_within (onward l r) (later i) = let w = fault_within r i in (omega arith, omega arith)
  fault_within {before = before} {f = f} (nothing {p = p} {q = q} _) m = elim m [ ]

  fault_none : (before names : List Spot) → NoneMissed (FaultIn before names) (first_name_fault fault before names)
  unfolding first_name_fault
  fault_none before (x ∷ names) e f (now {n} h) =
      absurd (none-ne-some n (sym ((map-eq-none_iff _ (fault before x)).0 (else_none _ _ e).0) ∙ h))
  fault_none before (x ∷ names) e f (later i) = fault_none (before ++ (x ∷ [])) names (else_none _ _ e).1 f i
  fault_none before [] e f m = elim m [ ]

  fault_smallest : {p q : ℕ} (before : List Spot) {names : List Spot} → NamesRise p q names
      → Smallest (λ f. f.place) (FaultIn before names) (first_name_fault fault before names)
  unfolding first_name_fault
  fault_smallest before (nothing l) = smallest_none _ _
  fault_smallest before (onward {x} {xs = names} l r) = go (fault before x) refl (fault_smallest (before ++ (x ∷ [])) r)
    where
      go : (o : Option ℕ) → fault before x ≡ o
          → Smallest (λ f. f.place) (FaultIn (before ++ (x ∷ [])) names) (first_name_fault fault (before ++ (x ∷ [])) names)
          → Smallest (λ f. f.place) (FaultIn before (x ∷ names))
          (option_or (option_map (λ number. refusal number x.place) o) (first_name_fault fault (before ++ (x ∷ [])) names))
      go None e ih = λ f h. (later (ih f h).0, other f h)
        where
          other : (f : Refusal) → first_name_fault fault (before ++ (x ∷ [])) names ≡ Some f → (g : Refusal) → FaultIn before (x ∷ names) g
              → (f ≡ g) ⊎ (f.place < g.place)
          other f h g (now {n} i) = absurd (none-ne-some n (sym e ∙ i))
          other f h g (later i) = (ih f h).1 g i
      go (Some n) e ih = smallest_some _ _ (refusal n x.place) (now e) other
        where
          other : (g : Refusal) → FaultIn before (x ∷ names) g → (refusal n x.place ≡ g) ⊎ (x.place < g.place)
          other g (now {n = m} i) = inl (ap (λ (k : ℕ). refusal k x.place) (some-injective n m (sym e ∙ i)))
          other g (later i) = inr (fault_within r i).0

  -- the same by what stands before and after the name at fault
  data FaultAt (earlier names : List Spot) : Refusal → Type 0 where
    fault_at : (before after : List Spot) (x : Spot) (n : ℕ) → names ≡ before ++ (x ∷ after) → fault (earlier ++ before) x ≡ Some n
        → FaultAt earlier names (refusal n x.place)

  in_at : {earlier names : List Spot} {f : Refusal} → FaultIn earlier names f → FaultAt earlier names f
  in_at (now {before} {names} {x} {n} e) = fault_at [] names x n refl (ap (λ (b : List Spot). fault b x) (append-nil before) ∙ e)
  in_at (later {before = earlier} {names} {x = y} i) = go (in_at i)
    where
      go : {f : Refusal} → FaultAt (earlier ++ (y ∷ [])) names f → FaultAt earlier (y ∷ names) f
      go (fault_at before after x n q e) =
          fault_at (y ∷ before) after x n (ap (λ (xs : List Spot). y ∷ xs) q)
          (ap (λ (b : List Spot). fault b x) (sym (append_assoc earlier (y ∷ []) before)) ∙ e)

  at_in : (earlier before after : List Spot) (x : Spot) (n : ℕ) → fault (earlier ++ before) x ≡ Some n
      → FaultIn earlier (before ++ (x ∷ after)) (refusal n x.place)
  at_in earlier [] after x n e = now (ap (λ (b : List Spot). fault b x) (sym (append-nil earlier)) ∙ e)
  at_in earlier (y ∷ before) after x n e =
      later (at_in (earlier ++ (y ∷ [])) before after x n (ap (λ (b : List Spot). fault b x) (append_assoc earlier (y ∷ []) before) ∙ e))

  at_first : {names : List Spot} (before after : List Spot) (x : Spot) (n : ℕ) → names ≡ before ++ (x ∷ after) → fault before x ≡ Some n
      → FaultIn [] names (refusal n x.place)
  at_first before after x n q e = rw q (at_in [] before after x n e)

-- ---- the search through lines

module _ {A : Type 0} (names_at : A → List Spot) (fault : List Spot → Spot → Option ℕ) where
  -- a fault of a name of one of these lines
  data LineFault (lines : List (Line A)) : Refusal → Type 0 where
    line_fault : {l : Line A} {f : Refusal} → Memᴰ l lines → FaultIn fault [] (names_at l.value) f → LineFault lines f

  same_line : {l l' : Line A} {f : Refusal} → l ≡ l' → FaultIn fault [] (names_at l.value) f → FaultIn fault [] (names_at l'.value) f
  same_line {f} e i = subst (λ (l : Line A). FaultIn fault [] (names_at l.value) f) e i

  line_within : {p q : ℕ} {lines : List (Line A)} {f : Refusal} → LinesRise names_at p q lines → LineFault lines f → (p ≤ f.place) × (f.place < q)
  line_within (no_lines k) (line_fault m i) = elim m [ ]
  line_within (next_line k n r) (line_fault (Memᴰ.head e) i) =
      let w = fault_within fault n (same_line e i) in
      let h = rise_forward _ (lines_places _ r) in
      (omega arith, omega arith)
  line_within (next_line k n r) (line_fault (Memᴰ.tail m) i) =
      let w = line_within r (line_fault m i) in
      let h = rise_forward _ n in
      (omega arith, omega arith)

  line_none : (lines : List (Line A)) → NoneMissed (LineFault lines) (lines_fault fault (map (λ l. names_at l.value) lines))
  unfolding lines_fault
  line_none [] e f (line_fault m i) = elim m [ ]
  line_none (l ∷ lines) e f (line_fault (Memᴰ.head q) i) = fault_none fault [] _ (else_none _ _ e).0 f (same_line q i)
  line_none (l ∷ lines) e f (line_fault (Memᴰ.tail m) i) = line_none lines (else_none _ _ e).1 f (line_fault m i)

  line_smallest : {p q : ℕ} {lines : List (Line A)} → LinesRise names_at p q lines
      → Smallest (λ f. f.place) (LineFault lines) (lines_fault fault (map (λ l. names_at l.value) lines))
  unfolding lines_fault
  line_smallest (no_lines k) = smallest_none _ _
  line_smallest (next_line {l} {lines} k n r) =
      smallest_else _ (FaultIn fault [] (names_at l.value)) (LineFault lines) (LineFault (l ∷ lines)) _ _ (fault_smallest fault [] n)
      (fault_none fault [] (names_at l.value)) (line_smallest r) less into from
    where
      less : (f g : Refusal) → FaultIn fault [] (names_at l.value) f → LineFault lines g → f.place < g.place
      less f g i j =
          let w = fault_within fault n i in
          let h = line_within r j in
          omega arith

      into : (f : Refusal) → FaultIn fault [] (names_at l.value) f ⊎ LineFault lines f → LineFault (l ∷ lines) f
      into f (inl i) = line_fault (Memᴰ.head refl) i
      into f (inr (line_fault m i)) = line_fault (Memᴰ.tail m) i

      from : (f : Refusal) → LineFault (l ∷ lines) f → FaultIn fault [] (names_at l.value) f ⊎ LineFault lines f
      from f (line_fault (Memᴰ.head e) i) = inl (same_line e i)
      from f (line_fault (Memᴰ.tail m) i) = inr (line_fault m i)

-- ---- what the tests say

column_means : (before : List Spot) (x : Spot) (n : ℕ) → column_fault before x ≡ Some n → Among before x × (n ≡ name_twice)
unfolding column_fault
column_means before x n e = go (stands_in before x) refl e
  where
    go : (t : Bool) → stands_in before x ≡ t → cond t (Some name_twice) None ≡ Some n → Among before x × (n ≡ name_twice)
    go true h q = (stands_among before x h, sym (some-injective name_twice n q))
    go false h q = absurd (none-ne-some n q)

means_column : (before : List Spot) (x : Spot) → Among before x → column_fault before x ≡ Some name_twice
unfolding column_fault
means_column before x a = rw (among_stands before x a)

not_among : (names : List Spot) (x : Spot) → stands_in names x ≡ false → Among names x → ⊥
not_among names x e a = holds_fails (stands_in names x) (among_stands names x a) e

module _ (columns before : List Spot) (x : Spot) where
  need_means : (n : ℕ) → need_fault columns before x ≡ Some n → (Among columns x → ⊥) × (n ≡ name_unknown)
  unfolding need_fault
  need_means n e = go (stands_in columns x) refl e
    where
      go : (t : Bool) → stands_in columns x ≡ t → cond t None (Some name_unknown) ≡ Some n → (Among columns x → ⊥) × (n ≡ name_unknown)
      go true h q = absurd (none-ne-some n q)
      go false h q = (not_among columns x h, sym (some-injective name_unknown n q))

  means_need : (Among columns x → ⊥) → need_fault columns before x ≡ Some name_unknown
  unfolding need_fault
  means_need a = rw (not_holds (stands_in columns x) (λ e. a (stands_among columns x e)))

  forbid_means : (n : ℕ) → forbid_fault columns before x ≡ Some n
      → ((Among columns x → ⊥) × (n ≡ name_unknown)) ⊎ (Among columns x × Among before x × (n ≡ name_twice))
  unfolding forbid_fault need_fault
  forbid_means n e = go (stands_in columns x) refl e
    where
      go : (t : Bool) → stands_in columns x ≡ t → option_or (cond t None (Some name_unknown)) (column_fault before x) ≡ Some n
          → ((Among columns x → ⊥) × (n ≡ name_unknown)) ⊎ (Among columns x × Among before x × (n ≡ name_twice))
      go true h q = let t = column_means before x n q in inr (stands_among columns x h, t.0, t.1)
      go false h q = inl (not_among columns x h, sym (some-injective name_unknown n q))

  means_forbid_unknown : (Among columns x → ⊥) → forbid_fault columns before x ≡ Some name_unknown
  unfolding forbid_fault
  means_forbid_unknown a = rw (means_need a)

  means_forbid_twice : Among columns x → Among before x → forbid_fault columns before x ≡ Some name_twice
  unfolding forbid_fault need_fault
  means_forbid_twice a b = rw (among_stands columns x a) (means_column before x b)

-- ---- the text

in_split : {x : Spot} {xs : List Spot} → Memᴰ x xs → (before : List Spot) × (after : List Spot) × (xs ≡ before ++ (x ∷ after))
in_split (Memᴰ.head {xs} e) = ([], xs, ap (λ (y : Spot). y ∷ xs) (sym e))
in_split (Memᴰ.tail {x = y} m) = let t = in_split m in (y ∷ t.0, t.1, ap (λ (zs : List Spot). y ∷ zs) t.2)

module _ (sheet : Sheet) where
  abbrev InColumns : Refusal → Type 0
  InColumns = FaultIn column_fault [] sheet.columns

  abbrev InForbids : Refusal → Type 0
  InForbids = LineFault (λ (v : List Spot). v) (forbid_fault sheet.columns) sheet.forbids

  abbrev InNeeds : Refusal → Type 0
  InNeeds = LineFault names_in (need_fault sheet.columns) sheet.needs

  numbered : (x : Spot) (n m : ℕ) → n ≡ m → IsFault sheet (refusal m x.place) → IsFault sheet (refusal n x.place)
  numbered x n m e i = rw e i

  columns_fault : {f : Refusal} → FaultAt column_fault [] sheet.columns f → IsFault sheet f
  columns_fault (fault_at before after x n q e) =
      let t = column_means before x n e in
      numbered x n name_twice t.1 (column_twice before after q t.0)

  forbids_fault : {l : Line (List Spot)} {f : Refusal} → Memᴰ l sheet.forbids → FaultAt (forbid_fault sheet.columns) [] l.value f
      → IsFault sheet f
  forbids_fault {l} m (fault_at before after x n q e) = go (forbid_means sheet.columns before x n e)
    where
      go : ((Among sheet.columns x → ⊥) × (n ≡ name_unknown)) ⊎ (Among sheet.columns x × Among before x × (n ≡ name_twice))
          → IsFault sheet (refusal n x.place)
      go (inl t) = numbered x n name_unknown t.1 (forbid_unknown m (in_middle before after q) t.0)
      go (inr t) = numbered x n name_twice t.2 (forbid_twice before after m q t.0 t.1)

  needs_fault : {l : Line Formula} {f : Refusal} → Memᴰ l sheet.needs → FaultAt (need_fault sheet.columns) [] (names_in l.value) f
      → IsFault sheet f
  needs_fault m (fault_at before after x n q e) =
      let t = need_means sheet.columns before x n e in
      numbered x n name_unknown t.1 (need_unknown m (in_middle before after q) t.0)

  found_fault : (f : Refusal) → InColumns f ⊎ (InForbids f ⊎ InNeeds f) → IsFault sheet f
  found_fault f (inl i) = columns_fault (in_at column_fault i)
  found_fault f (inr (inl (line_fault m i))) = forbids_fault m (in_at _ i)
  found_fault f (inr (inr (line_fault m i))) = needs_fault m (in_at _ i)

  fault_found : (f : Refusal) → IsFault sheet f → InColumns f ⊎ (InForbids f ⊎ InNeeds f)
  fault_found f (column_twice before after {x} q a) = inl (at_first column_fault before after x name_twice q (means_column before x a))
  fault_found f (forbid_unknown {x} m i a) =
      let t = in_split i in
      inr (inl (line_fault m (at_first _ t.0 t.1 x name_unknown t.2 (means_forbid_unknown sheet.columns t.0 x a))))
  fault_found f (forbid_twice before after {x} m q a b) =
      inr (inl (line_fault m (at_first _ before after x name_twice q (means_forbid_twice sheet.columns before x a b))))
  fault_found f (need_unknown {x} m i a) =
      let t = in_split i in
      inr (inr (line_fault m (at_first _ t.0 t.1 x name_unknown t.2 (means_need sheet.columns t.0 x a))))

  -- where no name is found at fault none is
  pub names_fault_none : (f : Refusal) → names_fault sheet ≡ None → IsFault sheet f → ⊥
  unfolding names_fault
  names_fault_none f e h = go (fault_found f h)
    where
      go : InColumns f ⊎ (InForbids f ⊎ InNeeds f) → ⊥
      go (inl i) = fault_none column_fault [] sheet.columns (else_none _ _ e).0 f i
      go (inr (inl i)) = line_none _ _ _ (else_none _ _ (else_none _ _ e).1).0 f i
      go (inr (inr i)) = line_none _ _ _ (else_none _ _ (else_none _ _ e).1).1 f i

  -- in a text of the form what is found is a name at fault, and every other name at fault has a greater place
  pub names_fault_smallest : {s : List ℕ} (f : Refusal) → OfForm s sheet → names_fault sheet ≡ Some f
      → IsFault sheet f × ((g : Refusal) → IsFault sheet g → (f ≡ g) ⊎ (f.place < g.place))
  unfolding names_fault
  names_fault_smallest f form e = found f e
    where
      rises : SheetRises sheet
      rises = sheet_rises form

      late : (f g : Refusal) → InForbids f → InNeeds g → f.place < g.place
      late f g i j =
          let u = line_within _ _ rises.forbids_rise i in
          let w = line_within _ _ rises.needs_rise j in
          omega arith

      later : (f g : Refusal) → InColumns f → InForbids g ⊎ InNeeds g → f.place < g.place
      later f g i (inl j) =
          let u = fault_within column_fault rises.columns_rise i in
          let w = line_within _ _ rises.forbids_rise j in
          omega arith
      later f g i (inr j) =
          let u = fault_within column_fault rises.columns_rise i in
          let h = rise_forward _ (lines_places _ rises.forbids_rise) in
          let w = line_within _ _ rises.needs_rise j in
          omega arith

      found : Smallest (λ (f : Refusal). f.place) (IsFault sheet) (names_fault sheet)
      found =
          smallest_else _ InColumns (λ (f : Refusal). InForbids f ⊎ InNeeds f) (IsFault sheet) _ _
          (fault_smallest column_fault [] rises.columns_rise) (fault_none column_fault [] sheet.columns)
          (smallest_else _ InForbids InNeeds (λ (f : Refusal). InForbids f ⊎ InNeeds f) _ _ (line_smallest _ _ rises.forbids_rise)
          (line_none _ _ sheet.forbids) (line_smallest _ _ rises.needs_rise) late (λ x h. h) (λ x h. h))
          later found_fault fault_found

  -- in a text of the form a name at fault stands within the text
  pub names_fault_within : {s : List ℕ} (f : Refusal) → OfForm s sheet → IsFault sheet f → f.place < length s
  names_fault_within {s} f form h = go (fault_found f h)
    where
      rises : SheetRises sheet
      rises = sheet_rises form

      forbids : rises.forbids_from ≤ rises.needs_from
      forbids = rise_forward _ (lines_places _ rises.forbids_rise)

      needs : rises.needs_from ≤ rises.end_from
      needs = rise_forward _ (lines_places _ rises.needs_rise)

      go : InColumns f ⊎ (InForbids f ⊎ InNeeds f) → f.place < length s
      go (inl i) = omega (arith, forbids, needs, sheet_ends form, fault_within column_fault rises.columns_rise i)
      go (inr (inl i)) = omega (arith, needs, sheet_ends form, line_within _ _ rises.forbids_rise i)
      go (inr (inr i)) = omega (arith, sheet_ends form, line_within _ _ rises.needs_rise i)
