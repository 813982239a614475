-- Laws of how many columns a set has. Assumes nothing.
use mathlib.Core.Path.{◌≡◌, refl, sym, ap, ap₂, ◌∙◌, fun_ext}
use mathlib.Core.Bool.{Bool, true, false, not, cond, ◌&&◌, ◌||◌}
use mathlib.Core.List.Memᴰ
use mathlib.Core.List.{List, [], ◌∷◌, Memᴰ}
use Prim.Native.Nat.{ℕ, zero, suc, ◌+◌, ◌/◌, ◌%◌, ◌^◌, ◌≤◌, ◌<◌}
use native.Mathlib.Nat.{div-one, pow-suc, mod-lt, zero-lt-suc, lt_of_le_of_lt}
use native.Mathlib.Omega.{arith}
use lib.Dec.{eqb}
use lib.Arith.{lt-one}
use lib.ListN.{length}
use lib.Bits.{bit_and, and_le_r}
use lib.Count.{ones, ones_step, ones-le}
use Rattle.rules.specs.Lists.{keep, up_from}
use Rattle.rules.specs.Sets.{has, members, apart, size, union, without}
use Rattle.rules.proofs.Lists.{in_up_from}
use Rattle.rules.proofs.Counting.{keep_same, keep_parts}
use Rattle.rules.proofs.SetBits.{has_and, has_later, below_most, sets_equal}
use Rattle.rules.proofs.Sets.{has_member, apart_column, has_union, has_without, without_below}

-- ---- how many of a list are kept

keep_later : (p : ℕ → Bool) (i k : ℕ) → length (keep p (up_from (suc i) k)) ≡ length (keep (λ j. p (suc j)) (up_from i k))
unfolding keep up_from
keep_later p i zero = refl
keep_later p i (suc k) =
    go (p (suc i)) (keep p (up_from (suc (suc i)) k)) (keep (λ j. p (suc j)) (up_from (suc i) k)) (keep_later p (suc i) k)
  where
    go : (b : Bool) (l m : List ℕ) → length l ≡ length m → length (cond b (suc i ∷ l) l) ≡ length (cond b (i ∷ m) m)
    go true l m e = ap suc e
    go false l m e = e

-- ---- the count of the bits

keep_ones : (k s : ℕ) → s < 2 ^ k → length (keep (λ i. has i s) (up_from 0 k)) ≡ ones s
unfolding keep up_from ones
keep_ones zero s h = rw (lt-one h)
keep_ones (suc k) s h =
    let later : length (keep (λ i. has i s) (up_from 1 k)) ≡ ones (s / 2) =
    keep_later (λ i. has i s) 0 k
    ∙ ap (λ (p : ℕ → Bool). length (keep p (up_from 0 k))) (fun_ext (λ i. has_later i s))
    ∙ keep_ones k (s / 2) (omega (arith, pow-suc 2 k)) in
    rw (div-one s) (first (s % 2) (keep (λ i. has i s) (up_from 1 k)) (mod-lt s (zero-lt-suc 1)))
    ∙ ap (λ (n : ℕ). s % 2 + n) later ∙ sym (ones_step s)
  where
    first : (d : ℕ) (l : List ℕ) → d < 2 → length (cond (eqb d 1) (0 ∷ l) l) ≡ d + length l
    first zero l b = omega arith
    first (suc zero) l b = omega arith
    first (suc (suc d)) l b = absurd (omega arith)

pub size_ones : (s : ℕ) → s < 2 ^ 16 → size s ≡ ones s
unfolding size members
size_ones s b = keep_ones 16 s b

pub size_empty : size 0 ≡ 0
unfolding size members keep up_from
size_empty = refl

pub size_some : (s i : ℕ) → i < 16 → has i s ≡ true → 0 < size s
unfolding size
size_some s i l h = go (members s) (has_member s i l h)
  where
    go : (columns : List ℕ) → Memᴰ i columns → 0 < length columns
    go [] m = absurd (Memᴰ.not-nil m)
    go (j ∷ columns) m = omega arith

pub size_le : (n s : ℕ) → n ≤ 16 → s < 2 ^ n → size s ≤ n
size_le n s l b = rw (size_ones s (below_most n s l b)) (ones-le n s b)

-- ---- the sizes of parts

pub size_parts : (s t : ℕ) → size s ≡ size (bit_and s t) + size (without s t)
unfolding size members
size_parts s t =
    keep_parts (λ i. has i s) (λ i. has i t) (up_from 0 16)
    ∙ ap₂ (λ (l m : List ℕ). length l + length m)
    (keep_same _ _ (up_from 0 16) (λ i m. sym (has_and s t i)))
    (keep_same _ _ (up_from 0 16) (λ i m. sym (has_without s t i (in_up_from 0 16 m).1)))

pub size_union_apart : (s t : ℕ) → s < 2 ^ 16 → t < 2 ^ 16 → apart s t ≡ true → size (union s t) ≡ size s + size t
size_union_apart s t bs bt a =
    size_parts (union s t) s ∙ ap₂ (λ (u v : ℕ). size u + size v) first second
  where
    joined : (p q : Bool) → ((p || q) && p) ≡ p
    joined true q = refl
    joined false true = refl
    joined false false = refl

    first : bit_and (union s t) s ≡ s
    first =
        sets_equal 16 (bit_and (union s t) s) s (lt_of_le_of_lt (and_le_r (union s t) s) bs) bs λ i l.
        has_and (union s t) s i ∙ ap (λ (b : Bool). b && has i s) (has_union s t i l) ∙ joined (has i s) (has i t)

    rest : (p q : Bool) → (q ≡ true → p ≡ false) → ((p || q) && not p) ≡ q
    rest true true f = sym (f refl)
    rest true false f = refl
    rest false true f = refl
    rest false false f = refl

    second : without (union s t) s ≡ t
    second =
        sets_equal 16 (without (union s t) s) t (without_below (union s t) s) bt λ i l.
        has_without (union s t) s i l ∙ ap (λ (b : Bool). b && not (has i s)) (has_union s t i l)
        ∙ rest (has i s) (has i t) (apart_column s t i l a)
