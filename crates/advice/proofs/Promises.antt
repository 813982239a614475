-- What the sentence for a refusal of a text says. Assumes nothing.
use mathlib.Core.Path.{◌≡◌, refl, sym, ap, subst, ◌∙◌}
use mathlib.Core.Logic.{◌⊎◌, inl, inr}
use mathlib.Core.List.{List, [], ◌∷◌, ◌++◌, Memᴰ}
use Rattle.rules.proofs.Options.{Option, None, Some, option_map, option_or, some-injective, none-ne-some}
use Prim.Native.Nat.{ℕ, zero, suc, ◌<◌}
use native.Mathlib.Omega.{arith}
use lib.ListN.{drop}
use Rattle.rules.specs.Lists.{first_of}
use Rattle.rules.specs.Signs.{Says}
use Rattle.rules.specs.Sets.{most_columns}
use Rattle.rules.specs.Numbers.{most_forbidden, most_needs, most_column_marks}
use Rattle.rules.specs.Names.{Spot, name_at}
use Rattle.rules.specs.Phrases.{Formula, names_in}
use Rattle.rules.specs.Texts.{Line, Sheet, OfForm}
use Rattle.rules.specs.Refusals.{too_many_parts, name_twice, name_unknown, end_number_other}
use Rattle.rules.specs.Positions.{position_of}
use Rattle.rules.specs.Sheets.{Refusal, refusal, name_after, line_after, needs_over, first_over, lines_in}
use Rattle.rules.specs.SheetFaults.{Among, IsFault, column_twice, forbid_unknown, forbid_twice, need_unknown}
use Rattle.rules.specs.SheetFaults.{HasFault, too_many, name_wrong, end_wrong}
use Rattle.rules.specs.Readings.{refused, Reads}
use Rattle.rules.proofs.Lists.{after_in, in_before, in_middle}
use Rattle.rules.proofs.Names.{same_bytes, same_name_lem}
use Rattle.rules.proofs.Places.{NamesRise, rise_before, line_rises, sheet_rises}
use Rattle.rules.proofs.TooMany.{over_found}
use Rattle.rules.proofs.Faults.{name_number}
use Rattle.rules.proofs.Readings.{refused_fault}
use Rattle.rules.proofs.Positions.{named_at, column_stands, forbid_stands, need_stands}
use Rattle.writing.specs.Added.{Holds}
use Rattle.naming.specs.Sections.{key_of}
use Rattle.naming.specs.declared.sections.Section.TheVariants.{Forbid, Need}
use Rattle.advice.specs.Sentences.{count_words, remedy, located, sentence}
use Rattle.advice.proofs.CountedLines.{form_counted}

-- two outcomes that the promise allows are equal
pub one_sentence : {text old new after : List ℕ} {r t : ℕ} → Holds text old r new → Holds text old t after → (r ≡ t) × (new ≡ after)
one_sentence a b = (a.place ∙ sym b.place, a.held ∙ sym b.held)

-- ---- refusals that are the same

number_of : {f g : Refusal} → f ≡ g → f.number ≡ g.number
number_of e = ap (λ (f : Refusal). f.number) e

place_of : {f g : Refusal} → f ≡ g → f.place ≡ g.place
place_of e = ap (λ (f : Refusal). f.place) e

-- ---- 3: what is too many is told by where it is

-- of need lines of which k may stand the one after those is at place p, or the first name too many of one is
data NeedAt (k : ℕ) (lines : List (Line Formula)) (p : ℕ) : Type 0 where
  line_at : {l : Line Formula} → first_of (drop k lines) ≡ Some l → l.place ≡ p → NeedAt k lines p
  name_at_lem : {l : Line Formula} {x : Spot} → Memᴰ l lines → first_of (drop most_column_marks (names_in l.value)) ≡ Some x → x.place ≡ p
      → NeedAt k lines p

need_at : {p : ℕ} (k : ℕ) (lines : List (Line Formula)) → needs_over k lines ≡ Some p → NeedAt k lines p
unfolding needs_over name_after first_of
need_at {p} zero [] e = absurd (none-ne-some p e)
need_at zero (l ∷ lines) e = line_at refl (some-injective _ _ e)
need_at {p} (suc k) [] e = absurd (none-ne-some p e)
need_at {p} (suc k) (l ∷ lines) e = go (first_of (drop most_column_marks (names_in l.value))) refl e (need_at k lines)
  where
    later : NeedAt k lines p → NeedAt (suc k) (l ∷ lines) p
    later (line_at h q) = line_at h q
    later (name_at_lem m h q) = name_at_lem (Memᴰ.tail m) h q

    go : (o : Option Spot) → first_of (drop most_column_marks (names_in l.value)) ≡ o
        → option_or (option_map (λ x. x.place) o) (needs_over k lines) ≡ Some p → (needs_over k lines ≡ Some p → NeedAt k lines p)
        → NeedAt (suc k) (l ∷ lines) p
    go (Some x) h f more = name_at_lem (Memᴰ.head refl) h (some-injective _ _ f)
    go None h f more = later (more f)

-- what is too many at place p, and where it is: the 17th column in line 1, the 33rd forbid line or the 9th need line at its key, and the 33rd name of a
-- need inside another line
pub data TooManyAt (s : List ℕ) (sheet : Sheet) (p : ℕ) : Type 0 where
  late_column : {x : Spot} → first_of (drop most_columns sheet.columns) ≡ Some x → x.place ≡ p → (position_of s p).line ≡ 1 → TooManyAt s sheet p
  late_forbid : {l : Line (List Spot)} → first_of (drop most_forbidden sheet.forbids) ≡ Some l → l.place ≡ p → 1 < (position_of s p).line
      → (position_of s p).column ≡ 1 → Says s p (key_of Forbid) → TooManyAt s sheet p
  late_need : {l : Line Formula} → first_of (drop most_needs sheet.needs) ≡ Some l → l.place ≡ p → 1 < (position_of s p).line
      → (position_of s p).column ≡ 1 → Says s p (key_of Need) → TooManyAt s sheet p
  late_name : {l : Line Formula} {x : Spot} → Memᴰ l sheet.needs → first_of (drop most_column_marks (names_in l.value)) ≡ Some x → x.place ≡ p
      → 1 < (position_of s p).line → 1 < (position_of s p).column → TooManyAt s sheet p

late_at : {s : List ℕ} {sheet : Sheet} {p : ℕ} → OfForm s sheet → first_over sheet ≡ Some p → TooManyAt s sheet p
unfolding first_over name_after line_after
late_at {s} {sheet} {p} form found = at_column (first_of (drop most_columns sheet.columns)) refl found
  where
    at_need : NeedAt most_needs sheet.needs p → TooManyAt s sheet p
    at_need (line_at f q) =
        let stands = need_stands form (after_in most_needs sheet.needs f) in
        late_need f q (rw (sym q) (omega (arith, stands.late, stands.begins.line))) (rw (sym q) stands.begins.column)
        (rw (sym q) stands.said)
    at_need (name_at_lem {l} m f q) =
        let stands = need_stands form m in
        let named = stands.names _ (after_in most_column_marks (names_in l.value) f) in
        late_name m f q (rw (sym q) (omega (arith, stands.late, named.line))) (rw (sym q) named.column)

    at_forbid : (o : Option (Line (List Spot))) → first_of (drop most_forbidden sheet.forbids) ≡ o
        → option_or (option_map (λ l. l.place) o) (needs_over most_needs sheet.needs) ≡ Some p → TooManyAt s sheet p
    at_forbid (Some l) f e =
        let q = some-injective _ _ e in
        let stands = forbid_stands form (after_in most_forbidden sheet.forbids f) in
        late_forbid f q (rw (sym q) (omega (arith, stands.late, stands.begins.line))) (rw (sym q) stands.begins.column)
        (rw (sym q) stands.said)
    at_forbid None f e = at_need (need_at most_needs sheet.needs e)

    at_column : (o : Option Spot) → first_of (drop most_columns sheet.columns) ≡ o
        → option_or (option_map (λ x. x.place) o) (option_or (line_after most_forbidden sheet.forbids) (needs_over most_needs sheet.needs)) ≡ Some p
        → TooManyAt s sheet p
    at_column (Some x) f e =
        let q = some-injective _ _ e in
        late_column f q (rw (sym q) (column_stands form (after_in most_columns sheet.columns f)).line)
    at_column None f e = at_forbid (first_of (drop most_forbidden sheet.forbids)) refl e

-- so the line, the column and the key at the place tell which of the four it is
pub too_many_told : {s : List ℕ} {p : ℕ} → Reads s (refused too_many_parts p) → (sheet : Sheet) → OfForm s sheet → TooManyAt s sheet p
too_many_told {s} {p} h sheet form = from (refused_fault (omega arith) h sheet form) refl
  where
    from : {f : Refusal} → HasFault sheet f → f ≡ refusal too_many_parts p → TooManyAt s sheet p
    from (too_many a b) e = late_at form (over_found form a b ∙ ap (λ (k : ℕ). Some k) (place_of e))
    from (name_wrong a b c) e = absurd (omega (arith, (name_number sheet b).0, number_of e))
    from (end_wrong a b c) e = absurd (omega (arith, number_of e))

-- ---- 4 and 5: the name in the sentence is the one at fault

-- a name of the text: among its columns, in a forbid line or in a need
pub data NameOf (sheet : Sheet) (x : Spot) : Type 0 where
  among_columns : Memᴰ x sheet.columns → NameOf sheet x
  in_forbid : {l : Line (List Spot)} → Memᴰ l sheet.forbids → Memᴰ x l.value → NameOf sheet x
  in_need : {l : Line Formula} → Memᴰ l sheet.needs → Memᴰ x (names_in l.value) → NameOf sheet x

module _ {s : List ℕ} {sheet : Sheet} (form : OfForm s sheet) where
  -- what the sentence would name at the place of a name is that name
  pub name_told : {x : Spot} → NameOf sheet x → name_at s x.place ≡ x.name
  name_told (among_columns m) = named_at s (column_stands form m)
  name_told (in_forbid m i) = named_at s ((forbid_stands form m).names _ i)
  name_told (in_need m i) = named_at s ((need_stands form m).names _ i)

  fault_name : {f : Refusal} → IsFault sheet f → (x : Spot) × NameOf sheet x × (x.place ≡ f.place)
  fault_name (column_twice before after {x} e a) = (x, among_columns (in_middle before after e), refl)
  fault_name (forbid_unknown {x} m i n) = (x, in_forbid m i, refl)
  fault_name (forbid_twice before after {x} m e a b) = (x, in_forbid m (in_middle before after e), refl)
  fault_name (need_unknown {x} m i n) = (x, in_need m i, refl)

-- the bytes that the sentence names are a name of the text that stands at the place
pub names_faulty : {s : List ℕ} {number p : ℕ} → (number ≡ name_twice) ⊎ (number ≡ name_unknown) → Reads s (refused number p) → (sheet : Sheet)
    → OfForm s sheet → (x : Spot) × NameOf sheet x × (x.place ≡ p) × (name_at s p ≡ x.name)
names_faulty {s} {number} {p} which h sheet form = from (refused_fault (omega (arith, (bounds which).0)) h sheet form) refl
  where
    bounds : (number ≡ name_twice) ⊎ (number ≡ name_unknown) → (3 < number) × (number < end_number_other)
    bounds (inl e) = (omega arith, omega arith)
    bounds (inr e) = (omega arith, omega arith)

    from : {f : Refusal} → HasFault sheet f → f ≡ refusal number p → (x : Spot) × NameOf sheet x × (x.place ≡ p) × (name_at s p ≡ x.name)
    from (too_many a b) e = absurd (omega (arith, (bounds which).0, number_of e))
    from (name_wrong a b c) e =
        let (x, n, q) = fault_name form b in
        let there = q ∙ place_of e in
        (x, n, there, rw (sym there) (name_told form n))
    from (end_wrong a b c) e = absurd (omega (arith, (bounds which).1, number_of e))

-- ---- 4: the name stands there for the second time in its line

-- an earlier name of the line of place p is the one there
pub record StoodBefore (s : List ℕ) (sheet : Sheet) (p : ℕ) : Type 0 where
  pub first : Spot
  pub is_name : NameOf sheet first
  pub earlier : first.place < p
  pub line : (position_of s first.place).line ≡ (position_of s p).line
  pub same : first.name ≡ name_at s p

-- the name in the sentence has stood earlier in its line
pub twice_told : {s : List ℕ} {p : ℕ} → Reads s (refused name_twice p) → (sheet : Sheet) → OfForm s sheet → StoodBefore s sheet p
twice_told {s} {p} h sheet form = from (refused_fault (omega arith) h sheet form) refl
  where
    twice : {f : Refusal} → IsFault sheet f → f.number ≡ name_twice → StoodBefore s sheet f.place
    twice (column_twice before after {x} e a) n =
        let m = in_before before (x ∷ after) e a.stands in
        let i = in_middle before after e in
        record {
          first = a.one;
          is_name = among_columns m;
          earlier = rise_before _ before x after (subst (NamesRise _ _) e (sheet_rises form).columns_rise) a.stands;
          line = (column_stands form m).line ∙ sym (column_stands form i).line;
          same = same_bytes _ _ a.same ∙ sym (name_told form (among_columns i));
        }
    twice (forbid_unknown m i b) n = absurd (omega arith)
    twice (forbid_twice {l} before after {x} k e c a) n =
        let m = in_before before (x ∷ after) e a.stands in
        let i = in_middle before after e in
        let rises = (line_rises _ (sheet_rises form).forbids_rise k).2 in
        record {
          first = a.one;
          is_name = in_forbid k m;
          earlier = rise_before _ before x after (subst (NamesRise _ _) e rises) a.stands;
          line = ((forbid_stands form k).names _ m).line ∙ sym ((forbid_stands form k).names _ i).line;
          same = same_bytes _ _ a.same ∙ sym (name_told form (in_forbid k i));
        }
    twice (need_unknown m i b) n = absurd (omega arith)

    from : {f : Refusal} → HasFault sheet f → f ≡ refusal name_twice p → StoodBefore s sheet p
    from (too_many a b) e = absurd (omega (arith, number_of e))
    from (name_wrong a b c) e = subst (StoodBefore s sheet) (place_of e) (twice b (number_of e))
    from (end_wrong a b c) e = absurd (omega (arith, number_of e))

-- ---- 5: the name is no column

-- no column has the name in the sentence
pub unknown_told : {s : List ℕ} {p : ℕ} → Reads s (refused name_unknown p) → (sheet : Sheet) → OfForm s sheet → (x : Spot) → Memᴰ x sheet.columns
    → x.name ≡ name_at s p → ⊥
unknown_told {s} {p} h sheet form x m same = from (refused_fault (omega arith) h sheet form) refl
  where
    other : {y : Spot} → NameOf sheet y → y.place ≡ p → (Among sheet.columns y → ⊥) → ⊥
    other {y} k e n =
        let is : x.name ≡ y.name = same ∙ ap (name_at s) (sym e) ∙ name_told form k in
        n (record { one = x; stands = m; same = rw is (same_name_lem y.name) })

    unknown : {f : Refusal} → IsFault sheet f → f.number ≡ name_unknown → f.place ≡ p → ⊥
    unknown (column_twice before after e a) n q = omega arith
    unknown (forbid_unknown k i b) n q = other (in_forbid k i) q b
    unknown (forbid_twice before after k e c a) n q = omega arith
    unknown (need_unknown k i b) n q = other (in_need k i) q b

    from : {f : Refusal} → HasFault sheet f → f ≡ refusal name_unknown p → ⊥
    from (too_many a b) e = omega (arith, number_of e)
    from (name_wrong a b c) e = unknown b (number_of e) (place_of e)
    from (end_wrong a b c) e = omega (arith, number_of e)

-- ---- 6: the number of lines

-- for a text of the form the number in the sentence is that of the forbid and need lines
pub six_counts : {s : List ℕ} {sheet : Sheet} (p : ℕ) → OfForm s sheet
    → sentence s end_number_other p ≡ located (position_of s p) ++ count_words (lines_in sheet)
unfolding sentence remedy
six_counts p form = rw (form_counted form)
