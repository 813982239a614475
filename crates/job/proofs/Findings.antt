-- What the tests of fitness find, said of the marks that are left: it is what they find of all marks. Assumes nothing.
use mathlib.Core.Path.{◌≡◌, refl, ◌∙◌}
use mathlib.Core.Logic.{◌⊎◌, inl, inr}
use mathlib.Core.Bool.{Bool, true, false, not, cond, ◌&&◌, ◌||◌, or-true}
use mathlib.Core.List.{List, [], ◌∷◌}
use Rattle.rules.specs.Options.{Option, None, Some, bind}
use Prim.Native.Nat.{ℕ, suc, ◌+◌, ◌-◌, ◌≤◌, ◌<◌}
use native.Mathlib.Nat.{zero-add, add-zero}
use native.Mathlib.Numerals.{add-one}
use native.Mathlib.Omega.{arith}
use lib.Dec.{eqb, ltb, leb}
use lib.ListN.{length, get_or, take, drop, length-drop, drop_of_length-le}
use lib.Seq.{drop-cons, drop-drop}
use borrow.Author.Tests.{ne_eqb, lt-ltb, le-ltb, leb-true, leb-false, not-true, not-false}
use Rattle.rules.specs.Lists.{any_of, keep}
use Rattle.rules.specs.Needs.{Need, column, both, either}
use Rattle.rules.specs.Marks.{and_mark, rows, before_end, joined, after, operands_of, only, need_of}
use Rattle.rules.specs.Numbers.{unclosed, absent, markless, joins_too_few, leaves_other, mark_unfit, column_marks_too_many, need_unfit, needs_too_many}
use Rattle.rules.proofs.Lists.{or_one, or_neither}
use Rattle.rules.proofs.Marks.{is_join, after_column, after_join, after_end, rows_first, unclosed_first, unclosed_last, marks_first, before_part, before_within}
use Rattle.job.specs.Findings.{marks_unfit, need_count}

-- ---- one need

-- whether the marks of a need are fit
abbrev pub need_fit : ℕ → List ℕ → Bool
need_fit n need = not (need_unfit need || any_of (mark_unfit n) need)

-- whether a need is fit of which these marks are left, after these operands and so many column marks
unfoldable left_fit : ℕ → List Need → ℕ → List ℕ → Bool
left_fit n vs named row =
    not (absent (bind (operands_of row vs) only) || ltb 32 (named + length (keep (λ m. ltb m and_mark) row)) || any_of (mark_unfit n) row)

-- what is known after i marks of a need: how many operands they leave and how many columns they name
pub record Left (n : ℕ) (need : List ℕ) (operands named i : ℕ) : Type 0 where
  vs : List Need
  many : length vs ≡ operands
  same : need_fit n need ≡ left_fit n vs named (drop i need)

pub left_start : (n : ℕ) (need : List ℕ) → Left n need 0 0 0
unfolding left_fit need_unfit markless joins_too_few leaves_other need_of column_marks_too_many operands_of only absent bind
left_start n [] = record { vs = []; many = refl; same = refl }
left_start n (m ∷ row) = record { vs = []; many = refl; same = rw (zero-add, none_left (operands_of (m ∷ row) [])) }
  where
    none_left : (o : Option (List Need)) → (absent o || absent (bind o only)) ≡ absent (bind o only)
    none_left None = refl
    none_left (Some vs) = refl

pub left_end : {n : ℕ} {need : List ℕ} {operands named i : ℕ} → Left n need operands named i → length need ≤ i
    → need_fit n need ≡ (eqb operands 1 && leb named 32)
unfolding left_fit operands_of only absent bind any_of keep
left_end {need} {named} left h = left.same ∙ rw (drop_of_length-le need h, ← left.many) (go left.vs)
  where
    few : (b : Bool) → leb named 32 ≡ b → not (ltb 32 (named + 0) || false) ≡ b
    few true e = rw (add-zero, le-ltb 32 named (leb-true named 32 e))
    few false e = rw (add-zero, lt-ltb 32 named (leb-false named 32 e))

    go : (vs : List Need) → not (absent (only vs) || ltb 32 (named + 0) || false) ≡ (eqb (length vs) 1 && leb named 32)
    go [] = refl
    go (v ∷ []) = few (leb named 32) refl
    go (v ∷ w ∷ vs) = rw (ne_eqb (length (v ∷ w ∷ vs)) 1 (λ q. omega arith))

pub one_most : (b : Bool) → cond b 1 0 ≤ 1
one_most true = omega arith
one_most false = omega arith

joined_few : (join : Need → Need → Need) (vs : List Need) → length vs < 2 → joined join vs ≡ None
unfolding joined
joined_few join [] h = refl
joined_few join (w ∷ []) h = refl
joined_few join (w ∷ v ∷ vs) h = absurd (omega arith)

joined_two : (join : Need → Need → Need) (vs : List Need) → 2 ≤ length vs
    → (us : List Need) × (suc (length us) ≡ length vs) × (joined join vs ≡ Some us)
unfolding joined
joined_two join [] h = absurd (omega arith)
joined_two join (w ∷ []) h = absurd (omega arith)
joined_two join (w ∷ v ∷ vs) h = (join v w ∷ vs, refl, refl)

module _ {n : ℕ} {need : List ℕ} {operands named i : ℕ} (left : Left n need operands named i) (h : i < length need) where
  pub left_unfit : mark_unfit n (get_or need i 0) ≡ true → need_fit n need ≡ false
  unfolding left_fit any_of
  left_unfit e = left.same ∙ rw (drop-cons need i 0 h, e, or-true)

  pub left_few : is_join (get_or need i 0) ≡ true → operands < 2 → need_fit n need ≡ false
  unfolding left_fit operands_of bind absent
  left_few j l =
      let join = cond (eqb (get_or need i 0) and_mark) both either in
      left.same ∙ rw (drop-cons need i 0 h, after_join (get_or need i 0) left.vs j, joined_few join left.vs (omega arith))

  step : (us : List Need) → mark_unfit n (get_or need i 0) ≡ false → after (get_or need i 0) left.vs ≡ Some us
      → need_fit n need ≡ left_fit n us (named + cond (ltb (get_or need i 0) and_mark) 1 0) (drop (i + 1) need)
  unfolding left_fit any_of operands_of keep bind
  step us f e = left.same ∙ rw (add-one, drop-cons need i 0 h, f, e, sums (ltb (get_or need i 0) and_mark))
    where
      later : List ℕ
      later = keep (λ m. ltb m and_mark) (drop (suc i) need)

      sums : (b : Bool) → named + length (cond b (get_or need i 0 ∷ later) later) ≡ named + cond b 1 0 + length later
      sums true = omega arith
      sums false = omega arith

  pub left_join : mark_unfit n (get_or need i 0) ≡ false → is_join (get_or need i 0) ≡ true → 2 ≤ operands
      → Left n need (operands - 1) (named + cond (ltb (get_or need i 0) and_mark) 1 0) (i + 1)
  left_join f j l =
      let us = joined_two (cond (eqb (get_or need i 0) and_mark) both either) left.vs (omega arith) in
      record { vs = us.0; many = omega (arith, us.1); same = step us.0 f (after_join (get_or need i 0) left.vs j ∙ us.2) }

  pub left_column : mark_unfit n (get_or need i 0) ≡ false → is_join (get_or need i 0) ≡ false
      → Left n need (operands + 1) (named + cond (ltb (get_or need i 0) and_mark) 1 0) (i + 1)
  left_column f j =
      let m = get_or need i 0 in
      record { vs = column m ∷ left.vs; many = omega arith; same = step (column m ∷ left.vs) f (after_column m left.vs j) }

-- ---- the needs

-- how many needs the marks are of which these are left, after so many needs
unfoldable count_from : ℕ → ℕ → List ℕ → Option ℕ
count_from n count marks =
    cond (unclosed marks || any_of need_unfit (rows marks) || any_of (mark_unfit n) marks || ltb 8 (count + length (rows marks))) None
    (Some (count + length (rows marks)))

module _ (n count : ℕ) (marks : List ℕ) (h : 0 < length marks) where
  full : count ≡ 8 → count_from n count marks ≡ None
  unfolding count_from
  full e =
      let over : 8 < count + length (rows marks) = rw (rows_first marks h) (omega arith) in
      rw (lt-ltb 8 (count + length (rows marks)) over, or-true)

  unfit : need_fit n (before_end marks) ≡ false → count_from n count marks ≡ None
  unfolding count_from any_of
  unfit e = go (or_one (need_unfit (before_end marks)) (any_of (mark_unfit n) (before_end marks)) (not-false _ e))
    where
      go : (need_unfit (before_end marks) ≡ true) ⊎ (any_of (mark_unfit n) (before_end marks) ≡ true) → count_from n count marks ≡ None
      go (inl a) = rw (rows_first marks h, a, or-true)
      go (inr b) = rw (marks_first n marks, b, or-true)

  next : length (before_end marks) < length marks → need_fit n (before_end marks) ≡ true
      → count_from n count marks ≡ count_from n (count + 1) (after_end marks)
  unfolding count_from any_of
  next l e =
      let fit = or_neither (need_unfit (before_end marks)) (any_of (mark_unfit n) (before_end marks)) (not-true _ e) in
      let one : count + suc (length (rows (after_end marks))) ≡ count + 1 + length (rows (after_end marks)) = omega arith in
      rw (unclosed_first marks l, rows_first marks h, marks_first n marks, fit.0, fit.1, one)

-- what is known after so many needs, which end before the place from
pub record Past (n : ℕ) (marks : List ℕ) (count from : ℕ) : Type 0 where
  same : need_count n marks ≡ count_from n count (drop from marks)

pub past_none : (n : ℕ) (marks : List ℕ) → Past n marks 0 0
unfolding need_count marks_unfit needs_too_many count_from
past_none n marks = record { same = rw zero-add }

module _ {n : ℕ} {marks : List ℕ} {count from : ℕ} (past : Past n marks count from) where
  pub past_all : length marks ≤ from → count ≤ 8 → need_count n marks ≡ Some count
  unfolding count_from unclosed rows any_of
  past_all h l = past.same ∙ rw (drop_of_length-le marks h, add-zero, le-ltb 8 count l)

  -- the place of the end mark of the next need, or the length of the marks
  module _ {to : ℕ} (h : from < length marks) (e : to ≡ from + length (before_end (drop from marks))) where
    some_left_lem : 0 < length (drop from marks)
    some_left_lem = omega (arith, length-drop from marks)

    pub past_unclosed : to ≡ length marks → need_count n marks ≡ None
    unfolding count_from
    past_unclosed q =
        let all : length (before_end (drop from marks)) ≡ length (drop from marks) = omega (arith, length-drop from marks) in
        past.same ∙ rw (unclosed_last (drop from marks) some_left_lem all)

    pub past_full : count ≡ 8 → need_count n marks ≡ None
    past_full q = past.same ∙ full n count (drop from marks) some_left_lem q

    need : take (to - from) (drop from marks) ≡ before_end (drop from marks)
    need = before_part marks from to e

    pub past_unfit : need_fit n (take (to - from) (drop from marks)) ≡ false → need_count n marks ≡ None
    past_unfit q = past.same ∙ unfit n count (drop from marks) some_left_lem (rw need at q)

    pub past_next : (to ≡ length marks → ⊥) → need_fit n (take (to - from) (drop from marks)) ≡ true → Past n marks (count + 1) (to + 1)
    past_next q f =
        let short : length (before_end (drop from marks)) < length (drop from marks) =
        omega (arith, length-drop from marks, before_within marks from (omega arith)) in
        let place : from + suc (length (before_end (drop from marks))) ≡ to + 1 = omega arith in
        let on = next n count (drop from marks) some_left_lem short (rw need at f) in
        record { same = past.same ∙ on ∙ rw (drop-drop (suc (length (before_end (drop from marks)))) from marks, place) }
