-- Taking the sets that contain a forbidden set out of a table: a forbidden set's columns below 6 name lanes, the others name blocks. Assumes nothing.
use mathlib.Core.Path.{◌≡◌, refl, sym, ap, ap₂, ◌∙◌}
use mathlib.Core.Bool.{Bool, true, false, not, ◌&&◌, ◌||◌, and-true}
use mathlib.Core.List.{List}
use Prim.Native.Nat.{ℕ, ◌+◌, ◌-◌, ◌*◌, ◌/◌, ◌%◌, ◌^◌, ◌<◌}
use native.Mathlib.Numerals.{add-one}
use native.Mathlib.Decide.{dec_lt}
use native.Mathlib.Omega.{arith}
use lib.Bits.{bit_and, and_le_r, and_block}
use lib.Dec.{eqb, ltb}
use lib.ListN.{length, get_or, take, set}
use lib.Pow.{mod-pow-add}
use lib.Seq.{take-suc}
use borrow.Author.Tests.{eqb-true, eq-eqb, eqb-false, lt-ltb, ltb-true}
use Rattle.rules.specs.Lists.{any_of}
use Rattle.rules.specs.Sets.{has, full, contains}
use Rattle.rules.proofs.Lists.{and_parts, and_both, same_test, any_append}
use Rattle.rules.proofs.SetBits.{has_and, has_full, has_low, has_others}
use Rattle.rules.proofs.Sets.{contains_bits, contains_column, contains_empty, has_contains}
use Rattle.needs.specs.Lanes.{Lanes}
use Rattle.tables.specs.Tables.{Tells, Narrows, Stays}
use Rattle.tables.proofs.WordTables.{tells_next, tells_set, tells_same, stays_at}

-- ---- the lanes of the columns below 6

low_has : (n t i : ℕ) → i < n → has i t ≡ true → has i (t % 2 ^ n) ≡ true
low_has n t i l h = has_low n t i ∙ and_both (has i t) (ltb i n) h (lt-ltb i n l)

-- the lanes that have the first so many columns of a set
abbrev pub LowLanes : ℕ → ℕ → ℕ → Type 0
LowLanes bits columns lanes = (lane : ℕ) → lane < 64 → has lane lanes ≡ contains lane (bits % 2 ^ columns)

pub low_none : (bits : ℕ) → LowLanes bits 0 0xFFFF_FFFF_FFFF_FFFF
low_none bits lane h =
    let nothing : bits % 2 ^ 0 ≡ 0 = omega arith in
    has_full 64 lane ∙ lt-ltb lane 64 h ∙ sym (rw nothing (contains_empty lane))

contains_more : (s t c : ℕ) → c < 16 → has c t ≡ true → contains s (t % 2 ^ (c + 1)) ≡ (contains s (t % 2 ^ c) && has c s)
contains_more s t c l h = same_test (contains s (t % 2 ^ (c + 1))) (contains s (t % 2 ^ c) && has c s) there back
  where
    there : contains s (t % 2 ^ (c + 1)) ≡ true → (contains s (t % 2 ^ c) && has c s) ≡ true
    there e =
        and_both (contains s (t % 2 ^ c)) (has c s)
        (has_contains s (t % 2 ^ c) λ i b f.
        let parts = and_parts (has i t) (ltb i c) (sym (has_low c t i) ∙ f) in
        contains_column s (t % 2 ^ (c + 1)) i b e (low_has (c + 1) t i (omega (arith, ltb-true i c parts.1)) parts.0))
        (contains_column s (t % 2 ^ (c + 1)) c l e (low_has (c + 1) t c (omega arith) h))

    back : (contains s (t % 2 ^ c) && has c s) ≡ true → contains s (t % 2 ^ (c + 1)) ≡ true
    back e =
        let both = and_parts (contains s (t % 2 ^ c)) (has c s) e in
        has_contains s (t % 2 ^ (c + 1)) λ i b f.
        let parts = and_parts (has i t) (ltb i (c + 1)) (sym (has_low (c + 1) t i) ∙ f) in
        go i b parts.0 (ltb-true i (c + 1) parts.1) both (dec_lt i c)
      where
        go : (i : ℕ) → i < 16 → has i t ≡ true → i < c + 1 → (contains s (t % 2 ^ c) ≡ true) × (has c s ≡ true) → Dec (i < c) → has i s ≡ true
        go i b f m both (yes d) = contains_column s (t % 2 ^ c) i b both.0 (low_has c t i d f)
        go i b f m both (no d) = let last : i ≡ c = omega arith in rw last both.1

pub low_more : (bits c lanes column : ℕ) → c < 6 → LowLanes bits c lanes → has c bits ≡ true → Lanes 0 (has c) column
    → LowLanes bits (c + 1) (bit_and lanes column)
low_more bits c lanes column l low h own lane b =
    let alone : 64 * 0 + lane ≡ lane = omega arith in
    has_and lanes column lane ∙ ap₂ ◌&&◌ (low lane b) (own lane b ∙ ap (has c) alone) ∙ sym (contains_more lane bits c (omega arith) h)

pub low_same : (bits c lanes : ℕ) → LowLanes bits c lanes → has c bits ≡ false → LowLanes bits (c + 1) lanes
low_same bits c lanes low h lane b = low lane b ∙ ap (contains lane) (sym same)
  where
    digit : bits / 2 ^ c % 2 ^ 1 ≡ 0
    digit = omega (arith, eqb-false (bits / 2 ^ c % 2) 1 h)

    same : bits % 2 ^ (c + 1) ≡ bits % 2 ^ c
    same =
        let turned : c + 1 ≡ 1 + c = omega arith in
        ap (λ (n : ℕ). bits % 2 ^ n) turned ∙ mod-pow-add bits 1 c ∙ rw digit (omega arith)

-- ---- a set of a block

two_parts : (a b c d : ℕ) → b < 64 → d < 64 → eqb (a * 64 + b) (c * 64 + d) ≡ (eqb a c && eqb b d)
two_parts a b c d k l = same_test (eqb (a * 64 + b) (c * 64 + d)) (eqb a c && eqb b d) there back
  where
    there : eqb (a * 64 + b) (c * 64 + d) ≡ true → (eqb a c && eqb b d) ≡ true
    there e =
        let same = eqb-true (a * 64 + b) (c * 64 + d) e in
        and_both (eqb a c) (eqb b d) (eq-eqb a c (omega arith)) (eq-eqb b d (omega arith))

    back : (eqb a c && eqb b d) ≡ true → eqb (a * 64 + b) (c * 64 + d) ≡ true
    back e = let both = and_parts (eqb a c) (eqb b d) e in eq-eqb (a * 64 + b) (c * 64 + d) (rw (eqb-true a c both.0, eqb-true b d both.1))

contains_in_block : (block lane f : ℕ) → lane < 64 → f < 2 ^ 16
    → contains (64 * block + lane) f ≡ (contains block (f / 64) && contains lane (f % 64))
contains_in_block block lane f l b =
    let high = f / 64 in
    let low = f % 64 in
    let whole : 64 * block + lane ≡ block * 2 ^ 6 + lane = omega arith in
    let forbidden : high * 2 ^ 6 + low ≡ f = omega arith in
    contains_bits (64 * block + lane) f b
    ∙ ap₂ (λ (s t : ℕ). eqb (bit_and s t) t) whole (sym forbidden)
    ∙ ap (λ (s : ℕ). eqb s (high * 2 ^ 6 + low)) (and_block 6 block high lane low l (omega arith))
    ∙ two_parts (bit_and block high) (bit_and lane low) high low (omega (arith, and_le_r lane low)) (omega arith)
    ∙ sym (ap₂ ◌&&◌ (contains_bits block high (omega arith)) (contains_bits lane low (omega arith)))

-- ---- a word without the sets that contain the forbidden one

module _ (block f : ℕ) (b : f < 2 ^ 16) (test : ℕ → Bool) (word : ℕ) (told : Lanes block test word) where
  taken_out : (low : ℕ) → low < 2 ^ 64 → LowLanes f 6 low → contains block (f / 64) ≡ true
      → Lanes block (λ s. test s && not (contains s f)) (bit_and word (full 64 - low))
  taken_out low m lanes e lane l =
      has_and word (full 64 - low) lane
      ∙ ap₂ ◌&&◌ (told lane l)
      (has_others 64 low lane m l ∙ ap not (lanes lane l ∙ sym (contains_in_block block lane f l b ∙ ap (λ (d : Bool). d && contains lane (f % 64)) e)))

  all_stay : contains block (f / 64) ≡ false → Lanes block (λ s. test s && not (contains s f)) word
  all_stay e lane l =
      told lane l
      ∙ sym (kept (test (64 * block + lane)) (contains_in_block block lane f l b ∙ ap (λ (d : Bool). d && contains lane (f % 64)) e))
    where
      kept : (a : Bool) {c : Bool} → c ≡ false → (a && not c) ≡ a
      kept true h = rw h
      kept false h = refl

-- ---- block by block in a table

-- the sets that contain a forbidden set, of which the lanes of its low columns and its high part are known, are out of the first blocks
abbrev pub Out : ℕ → ℕ → ℕ → List ℕ → ℕ → List ℕ → Type 0
Out low high count old block new =
    (f : ℕ) → f < 2 ^ 16 → f / 64 ≡ high → LowLanes f 6 low → (test : ℕ → Bool) → Tells count test old
    → Tells block (λ s. test s && not (contains s f)) new

module _ (low high count : ℕ) (old : List ℕ) (block : ℕ) (new : List ℕ) (l : block < count) (stays : Stays block old new)
    (out : Out low high count old block new) where
  here : (test : ℕ → Bool) → Tells count test old → Lanes block test (get_or new block 0)
  here test told = rw (stays_at block block old new (omega arith) stays) (told block l)

  pub out_more : low < 2 ^ 64 → block < length new → contains block high ≡ true
      → Out low high count old (block + 1) (set new block (bit_and (get_or new block 0) (full 64 - low)))
  out_more m h e f b q lanes test told =
      tells_set block (bit_and (get_or new block 0) (full 64 - low)) (λ s. test s && not (contains s f)) new h (out f b q lanes test told)
      (taken_out block f b test (get_or new block 0) (here test told) low m lanes (ap (contains block) q ∙ e))

  pub out_same : contains block high ≡ false → Out low high count old (block + 1) new
  out_same e f b q lanes test told =
      tells_next block (λ s. test s && not (contains s f)) new (out f b q lanes test told)
      (all_stay block f b test (get_or new block 0) (here test told) (ap (contains block) q ∙ e))

-- ---- one forbidden set more

-- the sets that contain one of the first so many forbidden sets are out of the table
abbrev pub Spares : ℕ → List ℕ → ℕ → List ℕ → List ℕ → Type 0
Spares count sets j old new = Narrows count (λ s. not (any_of (contains s) (take j sets))) old new

pub spares_none : (count : ℕ) (sets words : List ℕ) → Spares count sets 0 words words
unfolding any_of
spares_none count sets words test told = tells_same count test (λ s. test s && true) words (λ s. sym (and-true (test s))) told

pub spares_more : (count : ℕ) (sets : List ℕ) (j : ℕ) (old new last : List ℕ) → j < length sets → Spares count sets j old new
    → Narrows count (λ s. not (contains s (get_or sets j 0))) new last → Spares count sets (j + 1) old last
spares_more count sets j old new last h before here test told =
    tells_same count (λ s. test s && not (any_of (contains s) (take j sets)) && not (contains s (get_or sets j 0)))
    (λ s. test s && not (any_of (contains s) (take (j + 1) sets))) last
    (λ s.
    go (test s) (any_of (contains s) (take j sets)) (contains s (get_or sets j 0))
    ∙ ap (λ (b : Bool). test s && not b)
    (sym (any_append (contains s) (take j sets) (get_or sets j 0)) ∙ ap (any_of (contains s)) (sym (rw add-one (take-suc sets j 0 h)))))
    (here (λ s. test s && not (any_of (contains s) (take j sets))) (before test told))
  where
    go : (a b c : Bool) → (a && not b && not c) ≡ (a && not (b || c))
    go true true c = refl
    go true false c = refl
    go false b c = refl
