-- The operands of a need as words of lanes, in the first places of a list, the last operand last. Assumes nothing.
use mathlib.Core.Path.{◌≡◌, refl, ap₂, ◌∙◌}
use mathlib.Core.Bool.{Bool, true, false, cond, ◌&&◌, ◌||◌}
use mathlib.Core.List.{List, [], ◌∷◌}
use Rattle.rules.proofs.Options.{Some, bind, none-ne-some, some-injective}
use Prim.Native.Nat.{ℕ, suc, ◌+◌, ◌-◌, ◌≤◌, ◌<◌}
use native.Mathlib.Omega.{arith}
use native.Mathlib.Numerals.{add-one}
use lib.Bits.{bit_and, bit_or}
use lib.Dec.{eqb}
use lib.ListN.{length, get_or, set, drop, length-set}
use lib.Seq.{get_or-set_same, get_or-set_other}
use Rattle.rules.specs.Sets.{has}
use Rattle.rules.specs.Needs.{Need, column, both, either, meets}
use Rattle.rules.specs.Marks.{and_mark, end_mark, before_end, joined, after, operands_of, only, need_of}
use Rattle.rules.proofs.Marks.{is_join, after_column, after_join, before_later}
use Rattle.rules.proofs.SetBits.{has_and, has_or}
use Rattle.needs.specs.Lanes.{Lanes, joined_word}

-- ---- the words of the operands

-- each operand's word stands at its place
unfoldable pub Stacked : ℕ → List ℕ → List Need → Type 0
Stacked block words [] = Unit
Stacked block words (v ∷ vs) = Lanes block (meets v) (get_or words (length vs) 0) × Stacked block words vs

-- a word written past the operands leaves them as they are
stacked_past : (block : ℕ) (words : List ℕ) (vs : List Need) (place word : ℕ) → length vs ≤ place → Stacked block words vs
    → Stacked block (set words place word) vs
unfolding Stacked
stacked_past block words [] place word h s = tt
stacked_past block words (v ∷ vs) place word h s =
    (rw (get_or-set_other words place (length vs) word 0 (λ e. omega arith)) s.0, stacked_past block words vs place word (omega arith) s.1)

stacked_more : (block : ℕ) (words : List ℕ) (v : Need) (vs : List Need) (word : ℕ) → length vs < length words → Lanes block (meets v) word
    → Stacked block words vs → Stacked block (set words (length vs) word) (v ∷ vs)
unfolding Stacked
stacked_more block words v vs word h l s =
    (rw (get_or-set_same words (length vs) word 0 h) l, stacked_past block words vs (length vs) word (omega arith) s)

-- ---- two operands joined

joined_lanes : (block left right : ℕ) (v w : Need) (b : Bool) → Lanes block (meets v) left → Lanes block (meets w) right
    → Lanes block (meets (cond b both either v w)) (cond b (bit_and left right) (bit_or left right))
unfolding meets
joined_lanes block left right v w true l r lane h = has_and left right lane ∙ ap₂ (λ a b. a && b) (l lane h) (r lane h)
joined_lanes block left right v w false l r lane h = has_or left right lane ∙ ap₂ (λ a b. a || b) (l lane h) (r lane h)

-- ---- the operands so far, and the marks that are left

-- the marks lead from the operands, which have their words, to the need
abbrev pub Leads : ℕ → List ℕ → List ℕ → ℕ → Need → Type 0
Leads block marks words count v =
    (vs : List Need) × (bind (operands_of marks vs) only ≡ Some v) × (count ≡ length vs) × Stacked block words vs

leads_first : (block : ℕ) (marks words : List ℕ) (v : Need) → need_of marks ≡ Some v → Leads block marks words 0 v
unfolding need_of Stacked
leads_first block marks words v e = ([], e, refl, tt)

leads_last : (block : ℕ) (words : List ℕ) (count : ℕ) (v : Need) → Leads block [] words count v → Lanes block (meets v) (get_or words 0 0)
unfolding operands_of only bind Stacked
leads_last block words count v ([], e, n, s) = absurd (none-ne-some v e)
leads_last block words count v (w ∷ [], e, n, s) = rw (some-injective w v e) at s.0
leads_last block words count v (w ∷ x ∷ vs, e, n, s) = absurd (none-ne-some v e)

module _ (block m : ℕ) (marks words : List ℕ) (v : Need) where
  -- a mark leaves a new operand above those that stay: its word is written above theirs
  leads_new : (vs stay : List Need) (new : Need) (word : ℕ) → after m vs ≡ Some (new ∷ stay) → bind (operands_of (m ∷ marks) vs) only ≡ Some v
      → length stay < length words → Lanes block (meets new) word → Stacked block words stay
      → Leads block marks (set words (length stay) word) (suc (length stay)) v
  unfolding operands_of bind
  leads_new vs stay new word a e h l s = (new ∷ stay, rw a at e, refl, stacked_more block words new stay word h l s)

  leads_column : (count word : ℕ) → is_join m ≡ false → count < length words → Lanes block (has m) word
      → Leads block (m ∷ marks) words count v → Leads block marks (set words count word) (count + 1) v
  unfolding meets
  leads_column count word j h l (vs, e, n, s) =
      rw (n, add-one) (leads_new vs vs (column m) word (after_column m vs j) e (omega arith) l s)

  leads_join : (count word : ℕ) → is_join m ≡ true → 1 < count → count ≤ length words
      → word ≡ joined_word m (get_or words (count - 2) 0) (get_or words (count - 1) 0)
      → Leads block (m ∷ marks) words count v → Leads block marks (set words (count - 2) word) (count - 1) v
  unfolding joined Stacked
  leads_join count word j more h is ([], e, n, s) = absurd (omega arith)
  leads_join count word j more h is (w ∷ [], e, n, s) = absurd (omega arith)
  leads_join count word j more h is (w ∷ x ∷ vs, e, n, s) =
      let low : count - 2 ≡ length vs = omega arith in
      let high : count - 1 ≡ suc (length vs) = omega arith in
      let l = joined_lanes block (get_or words (length vs) 0) (get_or words (suc (length vs)) 0) x w (eqb m and_mark) s.1.0 s.0 in
      rw (is, low, high)
      (leads_new (w ∷ x ∷ vs) vs (cond (eqb m and_mark) both either x w) _ (after_join m (w ∷ x ∷ vs) j) e (omega arith) l s.1.1)

  no_join : (count : ℕ) → is_join m ≡ true → count ≤ 1 → Leads block (m ∷ marks) words count v → ⊥
  unfolding joined operands_of bind
  no_join count j few ([], e, n, s) = none-ne-some v (rw (after_join m [] j) at e)
  no_join count j few (w ∷ [], e, n, s) = none-ne-some v (rw (after_join m (w ∷ []) j) at e)
  no_join count j few (w ∷ x ∷ vs, e, n, s) = omega arith

-- ---- a row, one mark after the other

-- the marks before place i are read: if the row is a need, the others lead to it from the operands so far
pub record Read (block : ℕ) (row : List ℕ) (i : ℕ) (words : List ℕ) (count : ℕ) : Type 0 where
  pub whole : length row ≡ 63
  pub room : length words ≡ 63
  pub within : i ≤ 63
  pub few : count ≤ i
  pub leads : (v : Need) → need_of (before_end row) ≡ Some v → Leads block (before_end (drop i row)) words count v

pub read_none : (block : ℕ) (row words : List ℕ) → length row ≡ 63 → length words ≡ 63 → Read block row 0 words 0
read_none block row words h l =
    record { whole = h; room = l; within = omega arith; few = omega arith; leads = leads_first block (before_end row) words }

module _ {block : ℕ} {row : List ℕ} {i : ℕ} {words : List ℕ} {count : ℕ} (r : Read block row i words count) where
  pub read_all : before_end (drop i row) ≡ [] → (v : Need) → need_of (before_end row) ≡ Some v → Lanes block (meets v) (get_or words 0 0)
  read_all over v e = leads_last block words count v (rw over at (r.leads v e))

  module _ (h : i < length row) (n : get_or row i 0 ≡ end_mark → ⊥) where
    next : (new_words : List ℕ) (new_count : ℕ) → length new_words ≡ length words → new_count ≤ i + 1
        → ((v : Need) → Leads block (get_or row i 0 ∷ before_end (drop (i + 1) row)) words count v
        → Leads block (before_end (drop (i + 1) row)) new_words new_count v) → Read block row (i + 1) new_words new_count
    next new_words new_count l f turn =
        record {
          whole = r.whole;
          room = l ∙ r.room;
          within = omega arith;
          few = f;
          leads = λ v e. turn v (rw (before_later row i h n) at (r.leads v e));
        }

    pub read_column : (word : ℕ) → is_join (get_or row i 0) ≡ false → Lanes block (has (get_or row i 0)) word
        → Read block row (i + 1) (set words count word) (count + 1)
    read_column word j l =
        next (set words count word) (count + 1) (length-set words count word) (omega arith) λ v.
        leads_column block (get_or row i 0) (before_end (drop (i + 1) row)) words v count word j (omega arith) l

    pub read_join : (word : ℕ) → is_join (get_or row i 0) ≡ true → 1 < count
        → word ≡ joined_word (get_or row i 0) (get_or words (count - 2) 0) (get_or words (count - 1) 0)
        → Read block row (i + 1) (set words (count - 2) word) (count - 1)
    read_join word j more is =
        next (set words (count - 2) word) (count - 1) (length-set words (count - 2) word) (omega arith) λ v.
        leads_join block (get_or row i 0) (before_end (drop (i + 1) row)) words v count word j more (omega arith) is

    -- a join with fewer than two operands: the row is no need
    pub read_no_join : is_join (get_or row i 0) ≡ true → count ≤ 1 → Read block row (i + 1) words count
    read_no_join j less =
        next words count refl (omega arith) λ v l.
        absurd (no_join block (get_or row i 0) (before_end (drop (i + 1) row)) words v count j less l)
