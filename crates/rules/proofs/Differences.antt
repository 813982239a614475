-- Laws of what is left of a set when another is taken away, and of going down through the sets within a set. Assumes nothing.
use mathlib.Core.Path.{◌≡◌, refl, sym, ap, ◌∙◌}
use mathlib.Core.Bool.{Bool, true, false, not, ◌&&◌}
use Prim.Native.Nat.{ℕ, zero, suc, ◌-◌, ◌/◌, ◌%◌, ◌^◌, ◌≤◌, ◌<◌}
use native.Mathlib.Nat.{pow-suc}
use native.Mathlib.Decide.{dec_lt}
use native.Mathlib.Omega.{arith}
use lib.Bits.{bit_and, and_step, and_le_l}
use borrow.Author.Tests.{eqb-true, eq-eqb, not-true}
use Rattle.rules.specs.Sets.{has, contains, apart, without}
use Rattle.rules.proofs.Lists.{and_parts, and_both, holds_fails}
use Rattle.rules.proofs.SetBits.{has_and, has_later, sets_equal}
use Rattle.rules.proofs.Sets.{contains_column, contains_has, has_contains, contains_le, apart_column, has_apart, has_without, without_below}

-- ---- a column of what is left

pub left_has : (s t i : ℕ) → i < 16 → has i (without s t) ≡ true → (has i s ≡ true) × (has i t ≡ false)
left_has s t i l e = let p = and_parts (has i s) (not (has i t)) (sym (has_without s t i l) ∙ e) in (p.0, not-true (has i t) p.1)

pub has_left : (s t i : ℕ) → i < 16 → has i s ≡ true → has i t ≡ false → has i (without s t) ≡ true
has_left s t i l e f = has_without s t i l ∙ and_both (has i s) (not (has i t)) e (ap not f)

-- ---- what is left

pub contains_without : (s t : ℕ) → contains s (without s t) ≡ true
contains_without s t = has_contains s (without s t) (λ i l e. (left_has s t i l e).0)

pub left_swap : (s t u : ℕ) → without (without s t) u ≡ without (without s u) t
left_swap s t u =
    sets_equal 16 (without (without s t) u) (without (without s u) t) (without_below (without s t) u) (without_below (without s u) t) λ i l.
    columns t u i l ∙ swap (has i s) (not (has i t)) (not (has i u)) ∙ sym (columns u t i l)
  where
    columns : (a b i : ℕ) → i < 16 → has i (without (without s a) b) ≡ ((has i s && not (has i a)) && not (has i b))
    columns a b i l = has_without (without s a) b i l ∙ ap (λ (x : Bool). x && not (has i b)) (has_without s a i l)

    swap : (a b c : Bool) → ((a && b) && c) ≡ ((a && c) && b)
    swap false b c = refl
    swap true true true = refl
    swap true true false = refl
    swap true false true = refl
    swap true false false = refl

-- more is left of more
pub more_left : (s r t : ℕ) → contains s r ≡ true → contains (without s t) (without r t) ≡ true
more_left s r t c =
    has_contains (without s t) (without r t) λ i l e.
    let p = left_has r t i l e in
    has_left s t i l (contains_column s r i l c p.0) p.1

-- more is left if less is taken away
pub less_taken : (s t u : ℕ) → contains t u ≡ true → contains (without s u) (without s t) ≡ true
less_taken s t u c =
    has_contains (without s u) (without s t) λ i l e.
    let p = left_has s t i l e in
    has_left s u i l p.0 (go i l p.1 (has i u) refl)
  where
    go : (i : ℕ) → i < 16 → has i t ≡ false → (b : Bool) → has i u ≡ b → b ≡ false
    go i l n true e = holds_fails (has i t) (contains_column t u i l c e) n
    go i l n false e = refl

-- a set within what is left has no column of what was taken
pub left_apart : (s t u : ℕ) → contains (without s t) u ≡ true → apart t u ≡ true
left_apart s t u c = has_apart t u (λ i l e. (left_has s t i l (contains_column (without s t) u i l c e)).1)

pub apart_left : (s t u : ℕ) → contains s u ≡ true → apart t u ≡ true → contains (without s t) u ≡ true
apart_left s t u c a = has_contains (without s t) u (λ i l e. has_left s t i l (contains_column s u i l c e) (apart_column t u i l a e))

-- nothing is taken by a set that is apart
pub left_whole : (s t : ℕ) → s < 2 ^ 16 → apart t s ≡ true → without s t ≡ s
left_whole s t b a =
    sets_equal 16 (without s t) s (without_below s t) b λ i l.
    has_without s t i l ∙ go (has i s) (has i t) (apart_column t s i l a)
  where
    go : (x y : Bool) → (x ≡ true → y ≡ false) → (x && not y) ≡ x
    go false y f = refl
    go true y f = ap not (f refl)

-- nothing but the empty set lies within the empty set
pub within_empty : (s : ℕ) → s < 2 ^ 16 → contains 0 s ≡ true → s ≡ 0
within_empty s b c = let l = contains_le 0 s b c in omega arith

-- ---- going down through the sets within a set

-- every column of the set is one of the others, with no bound on the columns
abbrev Within : ℕ → ℕ → Type 0
Within free s = (i : ℕ) → has i s ≡ true → has i free ≡ true

halves : (free s : ℕ) → Within free s → Within (free / 2) (s / 2)
halves free s w i e = sym (has_later i free) ∙ w (suc i) (has_later i s ∙ e)

odd : (free s : ℕ) → Within free s → s % 2 ≤ free % 2
odd free s w = go (dec_lt 0 (s % 2))
  where
    go : Dec (0 < s % 2) → s % 2 ≤ free % 2
    go (yes l) =
        let e : free / 2 ^ 0 % 2 ≡ 1 = eqb-true (free / 2 ^ 0 % 2) 1 (w 0 (eq-eqb (s / 2 ^ 0 % 2) 1 (omega arith))) in
        omega arith
    go (no l) = omega arith

whole : (n free s : ℕ) → s < 2 ^ n → Within free s → bit_and s free ≡ s
whole zero free s b w = let l = and_le_l s free in omega arith
whole (suc n) free s b w =
    let later = whole n (free / 2) (s / 2) (omega (arith, pow-suc 2 n)) (halves free s w) in
    let first = odd free s w in
    and_step s free ∙ omega arith

-- one less leaves the columns after the lowest and sets all below it; of these, the ones that there are make the next smaller set
down : (n free s t : ℕ) → s < 2 ^ n → Within free s → Within free t → t < s → t ≤ bit_and (s - 1) free
down zero free s t b w v l = omega arith
down (suc n) free s t b w v l = go (down n (free / 2) (s / 2) (t / 2) small (halves free s w) (halves free t v)) (dec_lt 0 (s % 2))
  where
    small : s / 2 < 2 ^ n
    small = omega (arith, pow-suc 2 n)

    go : (t / 2 < s / 2 → t / 2 ≤ bit_and (s / 2 - 1) (free / 2)) → Dec (0 < s % 2) → t ≤ bit_and (s - 1) free
    go further (yes o) =
        let half : (s - 1) / 2 ≡ s / 2 = omega arith in
        let last : (s - 1) % 2 ≡ 0 = omega arith in
        let later : bit_and ((s - 1) / 2) (free / 2) ≡ s / 2 =
        ap (λ (x : ℕ). bit_and x (free / 2)) half ∙ whole n (free / 2) (s / 2) small (halves free s w) in
        rw (and_step (s - 1) free) (omega arith)
    go further (no o) =
        let half : (s - 1) / 2 ≡ s / 2 - 1 = omega arith in
        let last : (s - 1) % 2 ≡ 1 = omega arith in
        let later : t / 2 ≤ bit_and (s / 2 - 1) (free / 2) = further (omega arith) in
        let again : t / 2 ≤ bit_and ((s - 1) / 2) (free / 2) = rw half later in
        let first = odd free t v in
        rw (and_step (s - 1) free) (omega arith)

pub next_down : (free s t : ℕ) → s < 2 ^ 16 → contains free s ≡ true → t < 2 ^ 16 → contains free t ≡ true → t < s → t ≤ bit_and (s - 1) free
next_down free s t b c h d l = down 16 free s t b (λ i e. contains_has free s i b c e) (λ i e. contains_has free t i h d e) l

pub next_within : (free s : ℕ) → contains free (bit_and s free) ≡ true
next_within free s = has_contains free (bit_and s free) (λ i l e. (and_parts (has i s) (has i free) (sym (has_and s free i) ∙ e)).1)
