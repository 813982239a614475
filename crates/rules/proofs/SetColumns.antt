-- Laws of taking a single column away, and of sets that have the columns of two. Assumes nothing.
use mathlib.Core.Path.{◌≡◌, refl, sym, ap, ◌∙◌}
use mathlib.Core.Logic.{◌⊎◌, inl, inr}
use mathlib.Core.Bool.{Bool, true, false, not, ◌&&◌, and-false, true≢false}
use Prim.Native.Nat.{ℕ, zero, suc, ◌/◌, ◌%◌, ◌^◌, ◌≤◌, ◌<◌, zero-le}
use native.Mathlib.Nat.{pow-suc, lt_of_le_of_lt}
use native.Mathlib.Decide.{ℕ_discrete}
use native.Mathlib.Omega.{arith}
use lib.Bits.{bit_or}
use borrow.Author.Tests.{ne_eqb, not-true}
use Rattle.rules.specs.Lists.{any_of, up_from}
use Rattle.rules.specs.Sets.{has, contains, without}
use Rattle.rules.proofs.Lists.{and_parts, and_both, or_left, or_right, same_test, holds_fails, any_one, not_any_in, in_up_from, up_from_in}
use Rattle.rules.proofs.SetBits.{has_or, has_later, has_beyond, sets_equal}
use Rattle.rules.proofs.Sets.{contains_column, contains_has, contains_le, has_contains, has_without, without_le}

-- ---- two sets joined bit by bit hold what either holds

pub contains_or_left : (s t u : ℕ) → contains s u ≡ true → contains (bit_or s t) u ≡ true
contains_or_left s t u c =
    has_contains (bit_or s t) u (λ i l h. has_or s t i ∙ or_left (has i s) (has i t) (contains_column s u i l c h))

pub contains_or_right : (s t u : ℕ) → contains t u ≡ true → contains (bit_or s t) u ≡ true
contains_or_right s t u c =
    has_contains (bit_or s t) u (λ i l h. has_or s t i ∙ or_right (has i s) (has i t) (contains_column t u i l c h))

-- ---- the set of one column

half : (i : ℕ) → 2 ^ suc i / 2 ≡ 2 ^ i
half i = omega (arith, pow-suc 2 i)

pub has_own : (i : ℕ) → has i (2 ^ i) ≡ true
has_own zero = refl
has_own (suc i) = has_later i (2 ^ suc i) ∙ ap (has i) (half i) ∙ has_own i

pub has_only : (i j : ℕ) → has j (2 ^ i) ≡ true → j ≡ i
has_only zero zero h = refl
has_only zero (suc j) h = holds_fails (has (suc j) 1) h (has_beyond 1 1 (suc j) (omega arith) (omega arith))
has_only (suc i) zero h = holds_fails (has 0 (2 ^ suc i)) h (ne_eqb (2 ^ suc i / 2 ^ 0 % 2) 1 (λ e. omega (arith, pow-suc 2 i)))
has_only (suc i) (suc j) h = ap suc (has_only i j (sym (has_later j (2 ^ suc i) ∙ ap (has j) (half i)) ∙ h))

-- ---- a set from which one column is taken

pub without_lacks : (s i : ℕ) → i < 16 → has i (without s (2 ^ i)) ≡ false
without_lacks s i l = has_without s (2 ^ i) i l ∙ ap (λ (b : Bool). has i s && not b) (has_own i) ∙ and-false (has i s)

pub without_less : (s i : ℕ) → s < 2 ^ 16 → i < 16 → has i s ≡ true → without s (2 ^ i) < s
without_less s i b l h = go (ℕ_discrete (without s (2 ^ i)) s)
  where
    go : Dec (without s (2 ^ i) ≡ s) → without s (2 ^ i) < s
    go (yes e) = holds_fails (has i s) h (ap (has i) (sym e) ∙ without_lacks s i l)
    go (no n) = omega (arith, without_le s (2 ^ i) b)

-- a part that lacks the column is a part of what is left
pub contains_rest : (s t i : ℕ) → contains s t ≡ true → has i t ≡ false → contains (without s (2 ^ i)) t ≡ true
contains_rest s t i c e =
    has_contains (without s (2 ^ i)) t λ j l h.
    has_without s (2 ^ i) j l ∙ and_both (has j s) (not (has j (2 ^ i))) (contains_column s t j l c h) (other j h (has j (2 ^ i)) refl)
  where
    other : (j : ℕ) → has j t ≡ true → (b : Bool) → has j (2 ^ i) ≡ b → not b ≡ true
    other j h true o = holds_fails (has j t) h (ap (λ (k : ℕ). has k t) (has_only i j o) ∙ e)
    other j h false o = refl

-- ---- the parts of a set

-- a part of a set is the set itself, or lacks one of its columns
pub same_or_lacks : (n s t : ℕ) → n ≤ 16 → s < 2 ^ n → t < 2 ^ 16 → contains s t ≡ true
    → (t ≡ s) ⊎ ((i : ℕ) × (i < n) × (has i s ≡ true) × (has i t ≡ false))
same_or_lacks n s t m b d c = go (any_of lacks (up_from 0 n)) refl
  where
    lacks : ℕ → Bool
    lacks i = has i s && not (has i t)

    there : (a e : Bool) → (a && not e) ≡ false → a ≡ true → e ≡ true
    there a true f h = refl
    there true false f h = absurd (true≢false f)
    there false false f h = h

    go : (a : Bool) → any_of lacks (up_from 0 n) ≡ a → (t ≡ s) ⊎ ((i : ℕ) × (i < n) × (has i s ≡ true) × (has i t ≡ false))
    go true f =
        let found = any_one lacks (up_from 0 n) f in
        let both = and_parts (has found.0 s) (not (has found.0 t)) found.2 in
        inr (found.0, omega (arith, in_up_from 0 n found.1), both.0, not-true (has found.0 t) both.1)
    go false f =
        inl
        (sets_equal n t s (lt_of_le_of_lt (contains_le s t d c) b) b λ i l.
        same_test (has i t) (has i s) (contains_has s t i d c)
        (there (has i s) (has i t) (not_any_in lacks f (up_from_in 0 n i zero-le (omega arith)))))
