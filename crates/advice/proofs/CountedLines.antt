-- Lines that the number at the end counts: counted place by place, and in a text of the form. Assumes nothing.
use mathlib.Core.Path.{◌≡◌, refl, ap, ◌∙◌}
use mathlib.Core.Bool.{Bool, true, false, ◌&&◌}
use mathlib.Core.List.{List, [], ◌∷◌}
use Prim.Native.Nat.{ℕ, zero, suc, ◌+◌, ◌-◌, ◌≤◌}
use native.Mathlib.Numerals.{add-one}
use native.Mathlib.Omega.{arith}
use lib.ListN.{length, length-append, length-map}
use Rattle.std.specs.List.{filter, range_with_len}
use Rattle.rules.specs.Lists.{keep, up_from}
use Rattle.rules.specs.Diagrams.{leaf}
use Rattle.rules.specs.Signs.{Says}
use Rattle.rules.specs.Names.{Spot}
use Rattle.rules.specs.Texts.{Line, Sheet, OfForm}
use Rattle.rules.specs.Sheets.{lines_in}
use Rattle.rules.specs.Positions.{line_begins, line_starts}
use Rattle.rules.proofs.ListTests.{keep_append}
use Rattle.rules.proofs.Counting.{keep_one}
use Rattle.rules.proofs.LineStarts.{begins_first, begins_behind, starts_append, starts_line}
use Rattle.naming.specs.Words.{Ends, Rows, no_row, one_row}
use Rattle.naming.specs.Sections.{key_of, width_of, counted, counted_at}
use Rattle.naming.specs.declared.sections.Section.{Section}
use Rattle.naming.specs.declared.sections.Section.TheVariants.{Columns, Forbid, Need, End}
use Rattle.naming.proofs.Walks.{words_line}
use Rattle.naming.proofs.KeyPlaces.{key_line, number_line}
use Rattle.naming.proofs.CountedKeys.{key_counted}
use Rattle.naming.proofs.Laid.{laid_columns, laid_forbids, laid_needs}
use Rattle.advice.specs.CountedLines.{counted_in, counted_lines}

-- ---- pieces of a text

module _ (s : List ℕ) where
  -- none begins from a place to itself
  counted_nothing : (p : ℕ) → counted_in s p p ≡ 0
  unfolding counted_in line_starts up_from keep
  counted_nothing p = let none : p - p ≡ 0 = omega arith in rw none

  -- those up to a place and those from there on
  counted_append : (p r q : ℕ) → p ≤ r → r ≤ q → counted_in s p q ≡ counted_in s p r + counted_in s r q
  unfolding counted_in
  counted_append p r q l h =
      rw (starts_append s p r q l h, keep_append (counted_at s) (line_starts s p r) (line_starts s r q))
      (length-append (keep (counted_at s) (line_starts s p r)) (keep (counted_at s) (line_starts s r q)))

  -- one line, by what stands where it begins
  counted_line : (p r : ℕ) → line_begins s p ≡ true → Ends s p r → counted_in s p (r + 1) ≡ leaf (counted_at s p)
  unfolding counted_in
  counted_line p r here ends = rw (starts_line s p r here ends.forward ends.goes_on) (keep_one (counted_at s) p)

-- ---- place by place

range_from : (a n : ℕ) → range_with_len a n ≡ up_from a n
unfolding up_from
range_from a zero = refl
range_from a (suc n) = ap (λ (l : List ℕ). a ∷ l) (rw add-one (range_from (suc a) n))

-- what passes both tests is what passes one and then the other
kept_both : (p q : ℕ → Bool) (xs : List ℕ) → filter (λ i. p i && q i) xs ≡ keep q (keep p xs)
unfolding keep
kept_both p q [] = refl
kept_both p q (x ∷ xs) = go (p x) (q x) refl refl (kept_both p q xs)
  where
    go : (b c : Bool) → p x ≡ b → q x ≡ c → filter (λ i. p i && q i) xs ≡ keep q (keep p xs)
        → filter (λ i. p i && q i) (x ∷ xs) ≡ keep q (keep p (x ∷ xs))
    go true true e f more = rw (e, f) (ap (λ (l : List ℕ). x ∷ l) more)
    go true false e f more = rw (e, f) more
    go false c e f more = rw e more

-- the places at which a line begins that is counted
pub lines_kept : (s : List ℕ) → length (filter (λ p. line_begins s p && counted_at s p) (range_with_len 0 (length s))) ≡ counted_lines s
unfolding counted_in line_starts
lines_kept s =
    let all : length s - 0 ≡ length s = omega arith in
    rw (range_from 0 (length s), all) (ap length (kept_both (line_begins s) (counted_at s) (up_from 0 (length s))))

-- ---- in a text of the form

module _ {s : List ℕ} (section : Section) where
  -- a line of a section counts one exactly if the section's lines are counted
  section_counted : {p r : ℕ} → line_begins s p ≡ true → Says s p (key_of section) → Ends s (p + width_of section) r
      → counted_in s p (r + 1) ≡ leaf (counted section)
  section_counted {p} {r} here said ends = counted_line s p r here (key_line section said ends) ∙ ap leaf (key_counted section said)

  -- of a section whose lines are counted all are, and behind them a line begins
  rows_counted : counted section ≡ true → {p q : ℕ} {rows : List (Line (List Spot))} → line_begins s p ≡ true → Rows s (key_of section) p q rows
      → (counted_in s p q ≡ length rows) × (line_begins s q ≡ true) × (p ≤ q)
  rows_counted all {p} here (no_row n) = (counted_nothing s p, here, omega arith)
  rows_counted all {p} {q} here (one_row {r} said words more) =
      let line = words_line words in
      let one = section_counted here said line ∙ ap leaf all in
      let (others, last, far) = rows_counted all (begins_behind s r words.ends) more in
      (omega (arith, counted_append s p (r + 1) q (omega (arith, line.forward)) far), last, omega (arith, line.forward))

-- the lines that are counted are the forbid and need lines
pub form_counted : {s : List ℕ} {sheet : Sheet} → OfForm s sheet → counted_lines s ≡ lines_in sheet
form_counted {s} {sheet} form =
    let first = section_counted Columns (begins_first s) form.columns_said (words_line (laid_columns form)) in
    let (forbids, need_here, need_from) = rows_counted Forbid refl (begins_behind s form.columns_to form.columns_end) (laid_forbids form) in
    let (needs, end_here, end_from) = rows_counted Need refl need_here (laid_needs form) in
    let ends = number_line form.number form.number_end in
    let last = section_counted End end_here form.end_said ends in
    rw form.whole (omega (
      arith,
      first,
      forbids,
      needs ∙ length-map sheet.needs _,
      last,
      counted_append s 0 (form.columns_to + 1) (form.number_to + 1) (omega arith) (omega (arith, ends.forward)),
      counted_append s (form.columns_to + 1) form.needs_from (form.number_to + 1) need_from (omega (arith, ends.forward)),
      counted_append s form.needs_from form.end_from (form.number_to + 1) end_from (omega (arith, ends.forward)),
    ))
