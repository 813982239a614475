-- The parts of a text of the form: its lines where the code looks for them, and the number at its end. Assumes nothing.
use mathlib.Core.Path.{◌≡◌, refl, sym, ap, ◌∙◌}
use mathlib.Core.Bool.{true}
use mathlib.Core.List.{List, [], ◌∷◌, map}
use Rattle.rules.proofs.Options.{None, Some, option_or, map-eq-none_iff, option_map}
use Prim.Native.Nat.{ℕ, ◌+◌, ◌-◌, ◌*◌, ◌<◌, ◌≤◌}
use native.Mathlib.Omega.{arith}
use lib.ListN.{length, length-map}
use borrow.Author.Tests.{eq-eqb, ne_eqb, leb-true}
use Rattle.rules.specs.Sets.{most_columns}
use Rattle.rules.specs.Numbers.{most_forbidden, most_needs}
use Rattle.rules.specs.Refusals.{too_many_parts, end_number_other}
use Rattle.rules.specs.Signs.{byte_at, digit, line_end, forbid_key, need_key, end_key}
use Rattle.rules.specs.Names.{Spot}
use Rattle.rules.specs.Phrases.{Formula, names_in}
use Rattle.rules.specs.Texts.{Line, line, Number, one_digit, two_digits, Sheet, OfForm}
use Rattle.rules.specs.Sheets.{refusal, first_over, name_after, line_after, first_name_fault, lines_fault}
use Rattle.rules.specs.Sheets.{column_fault, forbid_fault, need_fault, names_fault, lines_in, end_fault}
use Rattle.rules.proofs.Lists.{and_parts}
use Rattle.rules.proofs.Searches.{else_none}
use Rattle.rules.proofs.Sheets.{none_after}
use Rattle.naming.specs.Words.{Words, Rows, columns_from}
use Rattle.naming.proofs.Laid.{laid_columns, laid_forbids, laid_needs}
use Rattle.faults.specs.Kinds.{rows_over, Walks, Sectioned}
use Rattle.faults.specs.declared.sections.Walked.{Walked}
use Rattle.faults.specs.declared.sections.Places.{Places}
use Rattle.faults.proofs.Refusing.{map_first}
use Rattle.naming.proofs.KeyPlaces.{byte_inside, line_inside}
use Rattle.faults.proofs.Counted.{needs_rows}

-- ---- the number at the end

-- a digit is 48 or more
digit_least : (b : ℕ) → digit b ≡ true → 48 ≤ b
digit_least b e = leb-true 48 b (and_parts _ _ e).0

-- it stands within the text
pub number_inside : {s : List ℕ} {p q n : ℕ} → Number s p q n → p < length s
number_inside {s} {p} (one_digit e) = byte_inside s refl (λ z. absurd (omega (arith, digit_least (byte_at s p) e)))
number_inside {s} {p} (two_digits e f g) = byte_inside s refl (λ z. absurd (omega (arith, digit_least (byte_at s p) e)))

-- it has one digit if no digit follows
pub number_one : {s : List ℕ} {p q n : ℕ} → Number s p q n → byte_at s (p + 1) < 48 → byte_at s p - 48 ≡ n
number_one (one_digit e) h = refl
number_one {s} {p} (two_digits e f g) h = absurd (omega (arith, digit_least (byte_at s (p + 1)) g))

-- and else two
pub number_two : {s : List ℕ} {p q n : ℕ} → Number s p q n → byte_at s q ≡ line_end → 48 ≤ byte_at s (p + 1)
    → 10 * (byte_at s p - 48) + (byte_at s (p + 1) - 48) ≡ n
number_two {s} {p} (one_digit e) g h = absurd (omega arith)
number_two (two_digits e f g) i h = refl

-- ---- the lines

module _ {s : List ℕ} {sheet : Sheet} (form : OfForm s sheet) where
  -- the place behind the line of the columns, and walks over the lines of each kind, each from where the one before ended, find where they stand
  pub sectioned : {from : ℕ} {b d : Walked}
      → ((q : ℕ) (names : List Spot) → Words s columns_from q names → from ≡ q + 1)
      → ((q : ℕ) (rows : List (Line (List Spot))) → Rows s forbid_key from q rows → Walks q rows b)
      → ((q : ℕ) (rows : List (Line (List Spot))) → Rows s need_key b.to q rows → Walks q rows d)
      → Sectioned s sheet form (record { forbids = from; needs = b.to; end = d.to; lines = b.lines + d.lines })
  sectioned columns forbids needs =
      let first = columns form.columns_to sheet.columns (laid_columns form) in
      let second = forbids form.needs_from sheet.forbids (rw first (laid_forbids form)) in
      let third = needs form.end_from (map (λ l. line l.place (names_in l.value)) sheet.needs) (rw second.to (laid_needs form)) in
      record {
        forbids = first;
        needs = second.to;
        end = third.to;
        lines = omega (arith, second.lines, third.lines ∙ length-map sheet.needs _);
      }

module _ {s : List ℕ} {sheet : Sheet} (form : OfForm s sheet) {places : Places} (at : Sectioned s sheet form places) where
  -- the forbid lines from their place on
  pub forbid_rows : Rows s forbid_key places.forbids form.needs_from sheet.forbids
  forbid_rows = rw at.forbids (laid_forbids form)

  -- the need lines from their place on
  pub need_rows : Rows s need_key places.needs form.end_from (map (λ l. line l.place (names_in l.value)) sheet.needs)
  need_rows = rw at.needs (laid_needs form)

  -- the end line lies within the text
  pub end_inside : places.end < length s
  end_inside = rw at.end (line_inside form.end_said (λ z. absurd (omega arith)))

  module _ {n : ℕ} (read : (q k : ℕ) → Number s (places.end + length end_key) q k → byte_at s q ≡ line_end → n ≡ k) where
    -- the number read is the sheet's
    end_number : n ≡ sheet.ended.value
    end_number = read form.number_to sheet.ended.value (rw at.end form.number) form.number_end

    -- the number at the end is right
    pub end_same : n ≡ places.lines → None ≡ end_fault sheet
    unfolding end_fault
    end_same e = sym (rw (eq-eqb sheet.ended.value (lines_in sheet) (sym end_number ∙ e ∙ at.lines)))

    -- or another
    pub end_other : (n ≡ places.lines → ⊥) → Some (refusal end_number_other (places.end + length end_key)) ≡ end_fault sheet
    unfolding end_fault
    end_other f =
        let g : sheet.ended.value ≡ lines_in sheet → ⊥ = λ e. f (end_number ∙ e ∙ sym at.lines) in
        let e : places.end + length end_key ≡ sheet.ended.place = ap (λ (p : ℕ). p + length end_key) at.end ∙ sym form.ended in
        rw (ne_eqb sheet.ended.value (lines_in sheet) g, e)

-- ---- what can be at fault, part by part

-- more than there may be: the columns, the forbid lines, the need lines
pub over_parts : (sheet : Sheet) → option_map (refusal too_many_parts) (first_over sheet)
    ≡ option_or (option_map (refusal too_many_parts) (name_after most_columns sheet.columns))
    (option_or (option_map (refusal too_many_parts) (line_after most_forbidden sheet.forbids))
    (option_map (refusal too_many_parts) (rows_over most_needs (map (λ l. line l.place (names_in l.value)) sheet.needs))))
unfolding first_over
over_parts sheet =
    rw (needs_rows most_needs sheet.needs)
    (map_first (refusal too_many_parts) (name_after most_columns sheet.columns) _
    ∙ rw (map_first (refusal too_many_parts) (line_after most_forbidden sheet.forbids) _))

-- with no more than there may be there are at most 16 columns
pub few_columns_lem : (sheet : Sheet) → option_map (refusal too_many_parts) (first_over sheet) ≡ None → length sheet.columns ≤ most_columns
unfolding first_over name_after
few_columns_lem sheet e =
    none_after (λ x. x.place) most_columns sheet.columns (else_none _ _ ((map-eq-none_iff (refusal too_many_parts) (first_over sheet)).0 e)).0

-- the lines of the names of need lines
need_names : (lines : List (Line Formula))
    → map (λ l. l.value) (map (λ l. line l.place (names_in l.value)) lines) ≡ map (λ l. names_in l.value) lines
need_names [] = refl
need_names (l ∷ lines) = rw (need_names lines)

-- names at fault: in the line of the columns, the forbid lines, the need lines
pub names_parts : (sheet : Sheet) → names_fault sheet
    ≡ option_or (first_name_fault column_fault [] sheet.columns)
    (option_or (lines_fault (forbid_fault sheet.columns) (map (λ l. l.value) sheet.forbids))
    (lines_fault (need_fault sheet.columns) (map (λ l. l.value) (map (λ l. line l.place (names_in l.value)) sheet.needs))))
unfolding names_fault
names_parts sheet = rw (need_names sheet.needs)
