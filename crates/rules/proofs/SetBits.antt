-- Laws of a single column of a set, a bit of the number, and of what columns are worth together. Assumes nothing.
use mathlib.Core.Path.{◌≡◌, refl, sym, ap, ◌∙◌}
use mathlib.Core.Bool.{Bool, true, false, not, cond, ◌&&◌, ◌||◌, true≢false, false≢true}
use mathlib.Core.List.{List, [], ◌∷◌, ◌++◌}
use Prim.Native.Nat.{ℕ, zero, suc, ◌+◌, ◌-◌, ◌*◌, ◌/◌, ◌%◌, ◌^◌, ◌≤◌, ◌<◌, min, max, zero-le, suc-le-suc}
use native.Mathlib.Nat.{pow-suc, div-one, div-eq_of_lt, mod-lt, lt_of_lt_of_le, le_of_suc-le-suc, zero-lt-suc}
use native.Mathlib.Numerals.{one-add}
use native.Mathlib.Decide.{dec_lt}
use native.Mathlib.Omega.{arith}
use lib.Dec.{eqb, ltb, leb, leb-suc-suc}
use lib.Arith.{lt-one}
use lib.Pow.{pow_pos, pow_mono, shr-shr, ones_lt}
use lib.Bits.{bit_and, bit_or, and_step, and_shr, and_mask, or_step, or_shr}
use borrow.Author.Tests.{eq-eqb, ne_eqb, ltb-true, lt-ltb, le-ltb, leb-true, le-leb}
use Rattle.rules.specs.Lists.{up_from}
use Rattle.rules.specs.Sets.{has, full, worth, within}
use Rattle.rules.proofs.Lists.{same_test, holds_fails}

-- ---- one binary digit

-- what holds of the four pairs of binary digits holds of the last digits of any two numbers
two_digits : (P : ℕ → ℕ → Type 0) → P 0 0 → P 0 1 → P 1 0 → P 1 1 → (m n : ℕ) → P (m % 2) (n % 2)
two_digits P a b c d m n = go (m % 2) (n % 2) (mod-lt m (zero-lt-suc 1)) (mod-lt n (zero-lt-suc 1))
  where
    go : (p q : ℕ) → p < 2 → q < 2 → P p q
    go zero zero l h = a
    go zero (suc zero) l h = b
    go zero (suc (suc q)) l h = absurd (omega arith)
    go (suc zero) zero l h = c
    go (suc zero) (suc zero) l h = d
    go (suc zero) (suc (suc q)) l h = absurd (omega arith)
    go (suc (suc p)) q l h = absurd (omega arith)

-- ---- a column of two sets joined bit by bit

and_digit : (s t i : ℕ) → bit_and s t / 2 ^ i % 2 ≡ min (s / 2 ^ i % 2) (t / 2 ^ i % 2)
and_digit s t i = rw (and_shr s t i, and_step (s / 2 ^ i) (t / 2 ^ i)) (omega arith)

pub has_and : (s t i : ℕ) → has i (bit_and s t) ≡ (has i s && has i t)
has_and s t i =
    ap (λ (d : ℕ). eqb d 1) (and_digit s t i)
    ∙ two_digits (λ p q. eqb (min p q) 1 ≡ (eqb p 1 && eqb q 1)) refl refl refl refl (s / 2 ^ i) (t / 2 ^ i)

or_digit : (s t i : ℕ) → bit_or s t / 2 ^ i % 2 ≡ max (s / 2 ^ i % 2) (t / 2 ^ i % 2)
or_digit s t i = rw (or_shr s t i, or_step (s / 2 ^ i) (t / 2 ^ i)) (omega arith)

pub has_or : (s t i : ℕ) → has i (bit_or s t) ≡ (has i s || has i t)
has_or s t i =
    ap (λ (d : ℕ). eqb d 1) (or_digit s t i)
    ∙ two_digits (λ p q. eqb (max p q) 1 ≡ (eqb p 1 || eqb q 1)) refl refl refl refl (s / 2 ^ i) (t / 2 ^ i)

-- ---- the first column and the others

has_first : (x : ℕ) (b : Bool) → has 0 (x * 2 + cond b 1 0) ≡ b
has_first x true = eq-eqb ((x * 2 + 1) / 2 ^ 0 % 2) 1 (omega arith)
has_first x false = ne_eqb ((x * 2 + 0) / 2 ^ 0 % 2) 1 (λ e. omega arith)

pub has_later : (i s : ℕ) → has (suc i) s ≡ has i (s / 2)
has_later i s = ap (λ (n : ℕ). eqb (n % 2) 1) (ap (λ (n : ℕ). s / 2 ^ n) (sym (one-add i)) ∙ sym (shr-shr s 1 i))

-- ---- columns that a set cannot have

pub has_beyond : (n s i : ℕ) → s < 2 ^ n → n ≤ i → has i s ≡ false
has_beyond n s i h l = rw (div-eq_of_lt (lt_of_lt_of_le h (pow_mono {i = n} {j = i} l)))

pub has_empty : (i : ℕ) → has i 0 ≡ false
has_empty i = has_beyond 0 0 i (zero-lt-suc 0) zero-le

pub has_below : (n s i : ℕ) → s < 2 ^ n → has i s ≡ true → i < n
has_below n s i h e = go (dec_lt i n)
  where
    go : Dec (i < n) → i < n
    go (yes l) = l
    go (no m) = holds_fails (has i s) e (has_beyond n s i h (omega arith))

pub below_most : (n s : ℕ) → n ≤ 16 → s < 2 ^ n → s < 2 ^ 16
below_most n s l b = lt_of_lt_of_le b (pow_mono {i = n} {j = 16} l)

-- ---- sets with the same columns are the same

pub sets_equal : (n s t : ℕ) → s < 2 ^ n → t < 2 ^ n → ((i : ℕ) → i < n → has i s ≡ has i t) → s ≡ t
sets_equal zero s t hs ht f = lt-one hs ∙ sym (lt-one ht)
sets_equal (suc n) s t hs ht f =
    let first : s % 2 ≡ t % 2 =
    two_digits (λ p q. eqb p 1 ≡ eqb q 1 → p ≡ q) (λ e. refl) (λ e. absurd (false≢true e)) (λ e. absurd (true≢false e)) (λ e. refl)
    s t (simp div-one at (f 0 (zero-lt-suc n))) in
    let others : s / 2 ≡ t / 2 =
    sets_equal n (s / 2) (t / 2) (omega (arith, pow-suc 2 n)) (omega (arith, pow-suc 2 n)) λ i l.
    sym (has_later i s) ∙ f (suc i) (suc-le-suc l) ∙ has_later i t in
    omega arith

-- ---- the full set

pub full_within : (n : ℕ) → full n < 2 ^ n
full_within n = ones_lt n

full_first : (n : ℕ) → full (suc n) ≡ full n * 2 + 1
full_first n = omega (arith, pow-suc 2 n, pow_pos n)

pub has_full : (n i : ℕ) → has i (full n) ≡ ltb i n
has_full zero i = has_empty i ∙ sym (le-ltb i 0 zero-le)
has_full (suc n) zero = ap (has 0) (full_first n) ∙ has_first (full n) true ∙ sym (lt-ltb 0 (suc n) (zero-lt-suc n))
has_full (suc n) (suc i) =
    let half : full (suc n) / 2 ≡ full n = omega (arith, full_first n) in
    has_later i (full (suc n)) ∙ ap (has i) half ∙ has_full n i ∙ sym (leb-suc-suc (suc i) n)

-- the first n columns of a set
pub has_low : (n s i : ℕ) → has i (s % 2 ^ n) ≡ (has i s && ltb i n)
has_low n s i = ap (has i) (sym (and_mask s n)) ∙ has_and s (full n) i ∙ ap (λ (b : Bool). has i s && b) (has_full n i)

other_digit : (d e : ℕ) → d + e ≡ 1 → eqb d 1 ≡ not (eqb e 1)
other_digit d zero h = let one : d ≡ 1 = omega arith in rw one
other_digit d (suc e) h = let none_left : d ≡ 0 = omega arith in let last : suc e ≡ 1 = omega arith in rw (none_left, last)

-- the other columns of n
pub has_others : (n s i : ℕ) → s < 2 ^ n → i < n → has i (full n - s) ≡ not (has i s)
has_others zero s i b l = absurd (omega arith)
has_others (suc n) s zero b l = other_digit ((full (suc n) - s) / 2 ^ 0 % 2) (s / 2 ^ 0 % 2) (omega (arith, full_first n, pow-suc 2 n))
has_others (suc n) s (suc i) b l =
    let half : (full (suc n) - s) / 2 ≡ full n - s / 2 = omega (arith, full_first n, pow-suc 2 n) in
    has_later i (full (suc n) - s) ∙ ap (has i) half ∙ has_others n (s / 2) i (omega (arith, pow-suc 2 n)) (le_of_suc-le-suc l)
    ∙ ap not (sym (has_later i s))

-- a set of at most 16 columns lies within n of them if its number is none past the full set's
pub within_full : (n s : ℕ) → s < 2 ^ 16 → within n s ≡ leb s (full (min n 16))
within_full n s b =
    same_test (within n s) (leb s (full (min n 16))) (λ w. le-leb s (full (min n 16)) (there w (dec_lt n 16))) back
  where
    there : within n s ≡ true → Dec (n < 16) → s ≤ full (min n 16)
    there w (yes l) = let e : min n 16 ≡ n = omega arith in rw e (omega (arith, ltb-true s (2 ^ n) w))
    there w (no l) = let e : min n 16 ≡ 16 = omega arith in rw e (omega arith)

    back : leb s (full (min n 16)) ≡ true → within n s ≡ true
    back h =
        let less : s < 2 ^ min n 16 = omega (arith, leb-true s (full (min n 16)) h, pow_pos (min n 16)) in
        lt-ltb s (2 ^ n) (lt_of_lt_of_le less (pow_mono {i = min n 16} {j = n} (omega arith)))

-- ---- what columns are worth together

worth_later : (p : ℕ → Bool) (i k : ℕ) → worth p (up_from (suc i) k) ≡ worth (λ j. p (suc j)) (up_from i k) * 2
unfolding worth up_from
worth_later p i zero = refl
worth_later p i (suc k) = rw (worth_later p (suc i) k) (go (p (suc i)) (worth (λ j. p (suc j)) (up_from (suc i) k)))
  where
    go : (b : Bool) (x : ℕ) → cond b (2 ^ suc i) 0 + x * 2 ≡ (cond b (2 ^ i) 0 + x) * 2
    go true x = omega (arith, pow-suc 2 i)
    go false x = omega arith

pub worth_append : (p : ℕ → Bool) (xs : List ℕ) (x : ℕ) → worth p (xs ++ (x ∷ [])) ≡ worth p xs + cond (p x) (2 ^ x) 0
unfolding worth
worth_append p [] x = omega arith
worth_append p (y ∷ xs) x = omega (arith, worth_append p xs x)

pub worth_first : (p : ℕ → Bool) (k : ℕ) → worth p (up_from 0 (suc k)) ≡ worth (λ j. p (suc j)) (up_from 0 k) * 2 + cond (p 0) 1 0
unfolding worth up_from
worth_first p k = rw (worth_later p 0 k) (omega arith)

pub worth_within : (p : ℕ → Bool) (n : ℕ) → worth p (up_from 0 n) < 2 ^ n
unfolding worth up_from
worth_within p zero = omega arith
worth_within p (suc n) = rw (worth_first p n) (go (p 0) (worth (λ j. p (suc j)) (up_from 0 n)) (worth_within (λ j. p (suc j)) n))
  where
    go : (b : Bool) (x : ℕ) → x < 2 ^ n → x * 2 + cond b 1 0 < 2 ^ suc n
    go true x h = omega (arith, pow-suc 2 n)
    go false x h = omega (arith, pow-suc 2 n)

pub worth_has : (p : ℕ → Bool) (n i : ℕ) → i < n → has i (worth p (up_from 0 n)) ≡ p i
worth_has p zero i h = absurd (omega arith)
worth_has p (suc n) zero h = rw (worth_first p n) (has_first (worth (λ j. p (suc j)) (up_from 0 n)) (p 0))
worth_has p (suc n) (suc i) h =
    has_later i (worth p (up_from 0 (suc n)))
    ∙ ap (has i) (ap (λ (x : ℕ). x / 2) (worth_first p n) ∙ half (p 0) (worth (λ j. p (suc j)) (up_from 0 n)))
    ∙ worth_has (λ j. p (suc j)) n i (le_of_suc-le-suc h)
  where
    half : (b : Bool) (x : ℕ) → (x * 2 + cond b 1 0) / 2 ≡ x
    half true x = omega arith
    half false x = omega arith

-- ---- the bit of a column as it is computed

-- 16 bits hold it
pub bit_fits : (i : ℕ) → i < 16 → 1 * 2 ^ i % 2 ^ 16 ≡ 2 ^ i
bit_fits i l = omega (arith, pow_mono {i = i} {j = 15} (omega arith))
