-- Laws of the places where the lines of a text begin. Assumes nothing.
use mathlib.Core.Path.{◌≡◌, refl, ap}
use mathlib.Core.Bool.{true, false}
use mathlib.Core.List.{List, [], ◌∷◌, ◌++◌, Memᴰ}
use Prim.Native.Nat.{ℕ, zero, suc, ◌+◌, ◌-◌, ◌≤◌, ◌<◌}
use native.Mathlib.Omega.{arith}
use native.Mathlib.Numerals.{add-one}
use borrow.Author.Tests.{eq-eqb, ne_eqb}
use Rattle.rules.specs.Lists.{keep, up_from}
use Rattle.rules.specs.Signs.{byte_at, line_end}
use Rattle.rules.specs.Positions.{line_begins, line_starts}
use Rattle.rules.proofs.Lists.{keep_none, in_up_from, up_from_append}
use Rattle.rules.proofs.ListTests.{keep_append}

module _ (s : List ℕ) where
  -- a line begins at the first place
  pub begins_first : line_begins s 0 ≡ true
  unfolding line_begins
  begins_first = refl

  -- and behind a line's end
  pub begins_behind : (p : ℕ) → byte_at s p ≡ line_end → line_begins s (p + 1) ≡ true
  unfolding line_begins
  begins_behind p e = rw add-one (eq-eqb (byte_at s p) line_end e)

  -- those up to a place and those from there on
  pub starts_append : (p r q : ℕ) → p ≤ r → r ≤ q → line_starts s p q ≡ line_starts s p r ++ line_starts s r q
  unfolding line_starts
  starts_append p r q l h =
      let e : q - p ≡ r - p + (q - r) = omega arith in
      let f : p + (r - p) ≡ r = omega arith in
      rw (e, up_from_append p (r - p) (q - r), f) (keep_append (line_begins s) (up_from p (r - p)) (up_from r (q - r)))

  -- where one begins no other does up to behind its end
  pub starts_line : (p r : ℕ) → line_begins s p ≡ true → p ≤ r → ((i : ℕ) → p ≤ i → i < r → byte_at s i ≡ line_end → ⊥)
      → line_starts s p (r + 1) ≡ p ∷ []
  unfolding line_starts line_begins keep up_from
  starts_line p r here l none =
      let e : r + 1 - p ≡ suc (r - p) = omega arith in
      rw (e, here) (ap (λ (l : List ℕ). p ∷ l) (keep_none (line_begins s) (up_from (suc p) (r - p)) other))
    where
      behind : (i : ℕ) → p < i → i ≤ r → line_begins s i ≡ false
      behind zero h k = absurd (omega arith)
      behind (suc i) h k = ne_eqb (byte_at s i) line_end (none i (omega arith) (omega arith))

      other : (i : ℕ) → Memᴰ i (up_from (suc p) (r - p)) → line_begins s i ≡ false
      other i m = let h = in_up_from (suc p) (r - p) m in behind i (omega arith) (omega arith)
