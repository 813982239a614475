-- The turns of the loop that reads a list, for both joins at once. Assumes nothing.
use mathlib.Core.Path.{◌≡◌, refl, sym, ap, subst, ◌∙◌}
use mathlib.Core.List.{List, [], ◌∷◌, ◌++◌, append_assoc}
use Prim.Native.Nat.{ℕ, ◌+◌, ◌<◌, ◌≤◌}
use native.Mathlib.Numerals.{add-one}
use native.Mathlib.Omega.{arith}
use lib.ListN.{length, set, take, length-set}
use lib.Seq.{take-suc-set}
use Rattle.rules.specs.Signs.{byte_at}
use Rattle.rules.specs.Phrases.{Formula, Join, ors, ands, sign_of, join_of, list, rest, operand, Stands, first, last, next}
use Rattle.rules.specs.Sheets.{marks_in}
use Rattle.rules.proofs.Signs.{inside}
use Rattle.rules.proofs.Phrases.{phrase_unique, operand_moves, phrase_moves}
use Rattle.phrases.specs.declared.Read.{Read}
use Rattle.phrases.specs.Readers.{marks_long, Readable, Wrote, Marked}
use Rattle.phrases.proofs.Counts.{mark_of, marks_join, long_join, rest_long}

-- the place behind what was read, and the number of marks
abbrev pub read : ℕ → ℕ → Read
read place count = record { at = place; marked = count }

-- one more mark behind the first n
pub take_set : (xs : List ℕ) (n x : ℕ) → n < length xs → take (n + 1) (set xs n x) ≡ take n xs ++ (x ∷ [])
take_set xs n x h = rw add-one (take-suc-set xs n x h)

-- a join's sign lies within the text
pub sign_within : (s : List ℕ) (p : ℕ) (j : Join) → byte_at s p ≡ sign_of j → p < length s
sign_within s p ors e = inside s p (λ z. omega arith)
sign_within s p ands e = inside s p (λ z. omega arith)

module _ {s : List ℕ} {j : Join} {deep : ℕ} where
  -- a list is its first operand and what follows it
  list_parts : {p q : ℕ} {w : Formula} → Stands s (list j) deep p q w
      → (r : ℕ) × (v : Formula) × Stands s (operand j) deep p r v × Stands s (rest j v) deep r q w
  list_parts (first {r} {v} a x) = (r, v, a, x)

  -- where the join's sign stands there is another operand
  another : {p q : ℕ} {u w : Formula} → Stands s (rest j u) deep p q w → byte_at s p ≡ sign_of j
      → (r : ℕ) × (v : Formula) × Stands s (operand j) deep (p + 1) r v × Stands s (rest j (join_of j u v)) deep r q w
  another (last n) e = absurd (n e)
  another (next {r} {v} f a x) e = (r, v, a, x)

  -- where it doesn't stand the list is at its end
  no_other : {p q : ℕ} {u w : Formula} → Stands s (rest j u) deep p q w → (byte_at s p ≡ sign_of j → ⊥) → (p ≡ q) × (u ≡ w)
  no_other (last n) f = (refl, refl)
  no_other (next e a x) f = absurd (f e)

-- at the head of the loop that reads a list: its first operand ends where the loop began, the operands so far say `said`, and whatever marks stood
-- before the list, behind them stand the marks of `said` now if those of the first operand stood there when the loop began
pub record ListSoFar (s : List ℕ) (j : Join) (at marked place₀ count₀ : ℕ) (marks₀ : List ℕ) (place count : ℕ) (marks : List ℕ) : Type 0 where
  pub deep : ℕ
  pub to : ℕ
  pub begun : Formula
  pub said : Formula
  pub whole : Formula
  pub one : Stands s (operand j) deep at place₀ begun
  pub others : Stands s (rest j begun) deep place₀ to whole
  pub left : Stands s (rest j said) deep place to whole
  pub forward : at ≤ place
  pub counted : count ≡ marked + marks_long said
  pub fits : marked + marks_long whole ≤ length marks₀
  pub long : length marks ≡ length marks₀
  pub wrote : (old : List ℕ) → Wrote s marked place₀ begun old (read place₀ count₀) marks₀ → Wrote s marked place said old (read place count) marks

-- one operand more and the join's mark
wrote_joined : {s : List ℕ} {n p c q : ℕ} {u v : Formula} {old marks new : List ℕ} {r : Read} (j : Join) → Wrote s n p u old (read p c) marks
    → Wrote s c q v marks r new → r.marked < length new
    → Wrote s n r.at (join_of j u v) old (read r.at (r.marked + 1)) (set new r.marked (mark_of j))
wrote_joined {s} {n} {p} {c} {q} {u} {v} {old} {marks} {new} {r} j a b h = record {
  at = refl;
  marked = omega (arith, a.marked, b.marked, long_join [] j u v);
  marks = λ to columns words few.
      take_set new r.marked (mark_of j) h ∙ ap (λ (f : List ℕ). f ++ (mark_of j ∷ [])) (b.marks to columns words few)
      ∙ ap (λ (f : List ℕ). (f ++ marks_in columns v) ++ (mark_of j ∷ [])) (a.marks to columns words few)
      ∙ append_assoc (take n old ++ marks_in columns u) (marks_in columns v) (mark_of j ∷ [])
      ∙ append_assoc (take n old) (marks_in columns u) (marks_in columns v ++ (mark_of j ∷ []))
      ∙ sym (ap (λ (f : List ℕ). take n old ++ f) (marks_join columns j u v));
}

module _ {s : List ℕ} {j : Join} where
  -- where a list stands its first operand stands
  pub first_asks : {p n room : ℕ} → Readable s (list j) p n room → Readable s (operand j) p n room
  first_asks a =
      let b = list_parts a.stands in
      record { deep = a.deep; to = b.0; formula = b.1; stands = b.2; fits = omega (arith, a.fits, rest_long b.3) }

  -- the loop begins behind the first operand
  pub first_turn : {p n : ℕ} {old new : List ℕ} {r : Read} → Readable s (list j) p n (length old) → Marked s (operand j) p n old r new
      → length new ≡ length old → ListSoFar s j p n r.at r.marked new r.at r.marked new
  first_turn a m l =
      let b = list_parts a.stands in
      let w = m a.deep b.0 b.1 b.2 in
      record {
        deep = a.deep;
        to = a.to;
        begun = b.1;
        said = b.1;
        whole = a.formula;
        one = rw w.at b.2;
        others = rw w.at b.3;
        left = rw w.at b.3;
        forward = omega (arith, w.at, operand_moves j (phrase_moves b.2));
        counted = w.marked;
        fits = omega (arith, a.fits, l);
        long = refl;
        wrote = λ old x. x;
      }

  module _ {at marked place₀ count₀ place count : ℕ} {marks₀ marks : List ℕ}
      (t : ListSoFar s j at marked place₀ count₀ marks₀ place count marks) where
    -- behind the join's sign another operand stands, with room for its marks
    pub turn_asks : byte_at s place ≡ sign_of j → Readable s (operand j) (place + 1) count (length marks)
    turn_asks e =
        let b = another t.left e in
        record {
          deep = t.deep;
          to = b.0;
          formula = b.1;
          stands = b.2;
          fits = omega (arith, t.counted, t.fits, t.long, rest_long b.3, long_join [] j t.said b.1);
        }

    module _ {r : Read} {new : List ℕ} (e : byte_at s place ≡ sign_of j) (m : Marked s (operand j) (place + 1) count marks r new)
        (l : length new ≡ length marks) where
      -- behind its marks there is room for the join's mark, and it ends further on
      pub turn_room : (r.marked < length new) × (place < r.at)
      turn_room =
          let b = another t.left e in
          let w = m t.deep b.0 b.1 b.2 in (
            omega (arith, t.counted, t.fits, t.long, l, w.marked, rest_long b.3, long_join [] j t.said b.1),
            omega (arith, w.at, operand_moves j (phrase_moves b.2)),
          )

      -- with the join's mark the loop goes on behind it
      pub turn_again : ListSoFar s j at marked place₀ count₀ marks₀ r.at (r.marked + 1) (set new r.marked (mark_of j))
      turn_again =
          let b = another t.left e in
          let w = m t.deep b.0 b.1 b.2 in
          record {
            deep = t.deep;
            to = t.to;
            begun = t.begun;
            said = join_of j t.said b.1;
            whole = t.whole;
            one = t.one;
            others = t.others;
            left = rw w.at b.3;
            forward = omega (arith, t.forward, turn_room.1);
            counted = omega (arith, t.counted, w.marked, long_join [] j t.said b.1);
            fits = t.fits;
            long = length-set new r.marked (mark_of j) ∙ l ∙ t.long;
            wrote = λ old x. wrote_joined j (t.wrote old x) w turn_room.0;
          }

    -- where no sign of the join stands the list is read
    pub turns_done : {old : List ℕ} → (byte_at s place ≡ sign_of j → ⊥) → Marked s (operand j) at marked old (read place₀ count₀) marks₀
        → Marked s (list j) at marked old (read place count) marks
    turns_done {old} none m deep q v d =
        let e = phrase_unique (first t.one t.others) d in
        let f = no_other t.left none in
        let w = t.wrote old (m t.deep place₀ t.begun t.one) in
        subst (λ (k : ℕ). Wrote s marked k v old (read place count) marks) (f.0 ∙ e.0)
        (subst (λ (u : Formula). Wrote s marked place u old (read place count) marks) (f.1 ∙ e.1) w)
