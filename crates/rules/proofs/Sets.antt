-- Laws of sets of columns: members, contains, apart, union, without. Assumes nothing.
use mathlib.Core.Path.{◌≡◌, refl, sym, ap, ap₂, ◌∙◌}
use mathlib.Core.Bool.{Bool, true, false, not, ◌&&◌, ◌||◌}
use mathlib.Core.List.{Memᴰ}
use Prim.Native.Nat.{ℕ, ◌-◌, ◌^◌, ◌≤◌, ◌<◌, zero-le}
use native.Mathlib.Nat.{sub-le, lt_of_le_of_lt}
use native.Mathlib.Omega.{arith}
use lib.Dec.{eqb}
use lib.Bits.{bit_and, bit_or, and_le_l, and_le_r, and_self, or_lt, or_disjoint}
use borrow.Author.Tests.{eqb-true, eq-eqb, not-true}
use Rattle.rules.specs.Lists.{every, keep, up_from}
use Rattle.rules.specs.Sets.{has, members, contains, apart, union, without}
use Rattle.rules.proofs.Lists.{and_parts, same_test, holds_fails, every_in, every_all, keep_in, in_keep, in_up_from, up_from_in}
use Rattle.rules.proofs.SetBits.{has_and, has_or, has_empty, has_below, below_most, sets_equal, worth_has, worth_within}

-- ---- members

pub member_has : (s i : ℕ) → Memᴰ i (members s) → (i < 16) × (has i s ≡ true)
unfolding members
member_has s i m = let r = in_keep (λ j. has j s) i (up_from 0 16) m in ((in_up_from 0 16 r.0).1, r.1)

pub has_member : (s i : ℕ) → i < 16 → has i s ≡ true → Memᴰ i (members s)
unfolding members
has_member s i l h = keep_in (λ j. has j s) (up_from_in 0 16 i zero-le l) h

-- ---- contains

-- the laws with `i < 16` ask no bound of the sets: a number is read as its first 16 columns
pub contains_column : (s t i : ℕ) → i < 16 → contains s t ≡ true → has i t ≡ true → has i s ≡ true
unfolding contains
contains_column s t i l c h = every_in (λ j. has j s) c (has_member t i l h)

pub contains_has : (s t i : ℕ) → t < 2 ^ 16 → contains s t ≡ true → has i t ≡ true → has i s ≡ true
contains_has s t i b c h = contains_column s t i (has_below 16 t i b h) c h

pub has_contains : (s t : ℕ) → ((i : ℕ) → i < 16 → has i t ≡ true → has i s ≡ true) → contains s t ≡ true
unfolding contains
has_contains s t f = every_all (λ j. has j s) (members t) (λ i m. f i (member_has t i m).0 (member_has t i m).1)

pub contains_and : (s t : ℕ) → t < 2 ^ 16 → contains s t ≡ true → bit_and s t ≡ t
contains_and s t b c =
    sets_equal 16 (bit_and s t) t (lt_of_le_of_lt (and_le_r s t) b) b λ i l.
    has_and s t i ∙ shared (has i s) (has i t) (contains_column s t i l c)
  where
    shared : (a d : Bool) → (d ≡ true → a ≡ true) → (a && d) ≡ d
    shared true d f = refl
    shared false true f = f refl
    shared false false f = refl

pub contains_bits : (s t : ℕ) → t < 2 ^ 16 → contains s t ≡ eqb (bit_and s t) t
contains_bits s t b = same_test (contains s t) (eqb (bit_and s t) t) (λ c. eq-eqb (bit_and s t) t (contains_and s t b c)) back
  where
    back : eqb (bit_and s t) t ≡ true → contains s t ≡ true
    back e =
        has_contains s t λ i l h.
        (and_parts (has i s) (has i t) (sym (has_and s t i) ∙ ap (has i) (eqb-true (bit_and s t) t e) ∙ h)).0

pub contains_refl : (s : ℕ) → contains s s ≡ true
contains_refl s = has_contains s s (λ i l h. h)

pub contains_trans : (s t u : ℕ) → contains s t ≡ true → contains t u ≡ true → contains s u ≡ true
contains_trans s t u c d = has_contains s u (λ i l h. contains_column s t i l c (contains_column t u i l d h))

pub contains_empty : (s : ℕ) → contains s 0 ≡ true
unfolding contains members keep up_from every
contains_empty s = refl

pub contains_le : (s t : ℕ) → t < 2 ^ 16 → contains s t ≡ true → t ≤ s
contains_le s t b c = omega (arith, and_le_l s t, contains_and s t b c)

-- ---- apart

pub apart_column : (s t i : ℕ) → i < 16 → apart s t ≡ true → has i t ≡ true → has i s ≡ false
unfolding apart
apart_column s t i l a h = not-true (has i s) (every_in (λ j. not (has j s)) a (has_member t i l h))

pub has_apart : (s t : ℕ) → ((i : ℕ) → i < 16 → has i t ≡ true → has i s ≡ false) → apart s t ≡ true
unfolding apart
has_apart s t f = every_all (λ j. not (has j s)) (members t) (λ i m. ap not (f i (member_has t i m).0 (member_has t i m).1))

pub apart_empty : (s : ℕ) → apart s 0 ≡ true
unfolding apart members keep up_from every
apart_empty s = refl

pub apart_and : (s t : ℕ) → t < 2 ^ 16 → apart s t ≡ true → bit_and s t ≡ 0
apart_and s t b a =
    sets_equal 16 (bit_and s t) 0 (lt_of_le_of_lt (and_le_r s t) b) (omega arith) λ i l.
    has_and s t i ∙ neither (has i s) (has i t) (apart_column s t i l a) ∙ sym (has_empty i)
  where
    neither : (a d : Bool) → (d ≡ true → a ≡ false) → (a && d) ≡ false
    neither true true f = f refl
    neither true false f = refl
    neither false d f = refl

pub apart_bits : (s t : ℕ) → t < 2 ^ 16 → apart s t ≡ eqb (bit_and s t) 0
apart_bits s t b = same_test (apart s t) (eqb (bit_and s t) 0) (λ a. eq-eqb (bit_and s t) 0 (apart_and s t b a)) back
  where
    missing : (a d : Bool) → (a && d) ≡ false → d ≡ true → a ≡ false
    missing true d e h = sym h ∙ e
    missing false d e h = refl

    back : eqb (bit_and s t) 0 ≡ true → apart s t ≡ true
    back e =
        has_apart s t λ i l h.
        missing (has i s) (has i t) (sym (has_and s t i) ∙ ap (has i) (eqb-true (bit_and s t) 0 e) ∙ has_empty i) h

pub apart_sym : (s t : ℕ) → apart s t ≡ apart t s
apart_sym s t = same_test (apart s t) (apart t s) (turned s t) (turned t s)
  where
    fails : (a d : Bool) → (d ≡ true → a ≡ false) → a ≡ true → d ≡ false
    fails a true f h = holds_fails a h (f refl)
    fails a false f h = refl

    turned : (u v : ℕ) → apart u v ≡ true → apart v u ≡ true
    turned u v a = has_apart v u (λ i l h. fails (has i u) (has i v) (apart_column u v i l a) h)

pub apart_part : (s t u : ℕ) → apart s t ≡ true → contains t u ≡ true → apart s u ≡ true
apart_part s t u a c = has_apart s u (λ i l h. apart_column s t i l a (contains_column t u i l c h))

-- so two sets that are apart differ, unless both are empty
pub apart_differ : (s : ℕ) → s < 2 ^ 16 → apart s s ≡ true → s ≡ 0
apart_differ s b a = sym (and_self s) ∙ apart_and s s b a

-- ---- union

pub has_union : (s t i : ℕ) → i < 16 → has i (union s t) ≡ (has i s || has i t)
unfolding union
has_union s t i l = worth_has (λ j. has j s || has j t) 16 i l

pub union_below : (s t : ℕ) → union s t < 2 ^ 16
unfolding union
union_below s t = worth_within (λ j. has j s || has j t) 16

pub union_bits : (s t : ℕ) → s < 2 ^ 16 → t < 2 ^ 16 → union s t ≡ bit_or s t
union_bits s t bs bt =
    sets_equal 16 (union s t) (bit_or s t) (union_below s t) (or_lt 16 s t bs bt) (λ i l. has_union s t i l ∙ sym (has_or s t i))

pub union_within : (n s t : ℕ) → n ≤ 16 → s < 2 ^ n → t < 2 ^ n → union s t < 2 ^ n
union_within n s t l bs bt = rw (union_bits s t (below_most n s l bs) (below_most n t l bt)) (or_lt n s t bs bt)

-- ---- without

pub has_without : (s t i : ℕ) → i < 16 → has i (without s t) ≡ (has i s && not (has i t))
unfolding without
has_without s t i l = worth_has (λ j. has j s && not (has j t)) 16 i l

pub without_below : (s t : ℕ) → without s t < 2 ^ 16
unfolding without
without_below s t = worth_within (λ j. has j s && not (has j t)) 16

-- what is taken away and what is left have no column in common and make up the set
pub without_bits : (s t : ℕ) → s < 2 ^ 16 → without s t ≡ s - bit_and s t
without_bits s t b =
    let left = without s t in
    let taken = bit_and s t in
    let taken_below : taken < 2 ^ 16 = lt_of_le_of_lt (and_le_l s t) b in
    let disjoint : bit_and left taken ≡ 0 =
    sets_equal 16 (bit_and left taken) 0 (lt_of_le_of_lt (and_le_r left taken) taken_below) (omega arith) λ i l.
    has_and left taken i ∙ ap₂ ◌&&◌ (has_without s t i l) (has_and s t i) ∙ nowhere (has i s) (has i t) ∙ sym (has_empty i) in
    let whole : bit_or left taken ≡ s =
    sets_equal 16 (bit_or left taken) s (or_lt 16 left taken (without_below s t) taken_below) b λ i l.
    has_or left taken i ∙ ap₂ ◌||◌ (has_without s t i l) (has_and s t i) ∙ somewhere (has i s) (has i t) in
    omega (arith, or_disjoint left taken disjoint)
  where
    nowhere : (a d : Bool) → (a && not d && (a && d)) ≡ false
    nowhere true true = refl
    nowhere true false = refl
    nowhere false d = refl

    somewhere : (a d : Bool) → (a && not d || a && d) ≡ a
    somewhere true true = refl
    somewhere true false = refl
    somewhere false d = refl

pub without_le : (s t : ℕ) → s < 2 ^ 16 → without s t ≤ s
without_le s t b = rw (without_bits s t b) (sub-le s (bit_and s t))
