-- Laws of the bytes of a text: which lie within it, which stand somewhere, and those of a piece. Assumes nothing.
use mathlib.Core.Path.{◌≡◌, refl, sym, ap, ◌∙◌}
use mathlib.Core.Bool.{Bool, true, false, true≢false}
use mathlib.Core.List.{List, [], ◌∷◌}
use Prim.Native.Nat.{ℕ, suc, ◌+◌, ◌-◌, ◌<◌, ◌≤◌}
use native.Mathlib.Nat.{lt_of_not-le}
use native.Mathlib.Decide.{ℕ_discrete}
use native.Mathlib.Omega.{arith}
use lib.Dec.{eqb}
use lib.ListN.{length, get_or, drop, length-take, length-drop, get_or-eq_default}
use lib.Seq.{get_or-take, get_or-drop}
use borrow.Author.Tests.{eq-eqb, ne_eqb, eqb-true}
use Rattle.rules.specs.Lists.{every}
use Rattle.rules.specs.Signs.{byte_at, piece, Says, says_all, says_byte, says_at, letter, digit, in_name}
use Rattle.rules.proofs.Lists.{or_left, or_neither, and_parts, not_holds, holds_fails, every_in, get_d_in}
use Rattle.rules.proofs.ListTests.{every_places}

-- ---- bytes

-- a byte that is not 0 lies within the text
pub inside : (s : List ℕ) (p : ℕ) → (byte_at s p ≡ 0 → ⊥) → p < length s
inside s p h = lt_of_not-le (λ (g : length s ≤ p). h (get_or-eq_default s 0 g))

-- a letter is a byte of a name
pub letter_named : (b : ℕ) → letter b ≡ true → in_name b ≡ true
letter_named b e = or_left (letter b) (digit b) e

-- 0 is no byte of a name
pub named_not_0 : (b : ℕ) → in_name b ≡ true → b ≡ 0 → ⊥
named_not_0 b e z = true≢false (sym e ∙ ap in_name z)

-- so a byte of a name lies within the text
pub named_inside : (s : List ℕ) (p : ℕ) → in_name (byte_at s p) ≡ true → p < length s
named_inside s p e = inside s p (named_not_0 (byte_at s p) e)

-- a byte of a name is none that stands in no name
pub named_other : (b c : ℕ) → in_name b ≡ true → in_name c ≡ false → eqb b c ≡ false
named_other b c e f = ne_eqb b c λ same. holds_fails (in_name b) e (ap in_name same ∙ f)

-- a byte of no name is no digit
pub no_name_no_digit : (b : ℕ) → in_name b ≡ false → digit b ≡ false
no_name_no_digit b e = (or_neither (letter b) (digit b) e).1

-- ---- bytes that stand somewhere

-- of bytes that stand somewhere the first stands there, and the others behind it
pub says_first : {s : List ℕ} {p b : ℕ} {bytes : List ℕ} → Says s p (b ∷ bytes) → (byte_at s p ≡ b) × Says s (suc p) bytes
says_first (says_byte e more) = (e, more)

-- a test that holds of all of them holds of each byte there
pub says_every : (test : ℕ → Bool) {s : List ℕ} {p : ℕ} {bytes : List ℕ} → every test bytes ≡ true → Says s p bytes
    → (i : ℕ) → p ≤ i → i < p + length bytes → test (byte_at s i) ≡ true
unfolding every
says_every test {p} h says_all i l m = absurd (omega arith)
says_every test {s} {p} h (says_byte {b} {bytes} e more) i l m =
    let parts = and_parts (test b) (every test bytes) h in
    go (ℕ_discrete i p) parts.0 (says_every test parts.1 more i)
  where
    go : Dec (i ≡ p) → test b ≡ true → (suc p ≤ i → i < suc p + length bytes → test (byte_at s i) ≡ true) → test (byte_at s i) ≡ true
    go (yes here) holds later = ap (λ (k : ℕ). test (byte_at s k)) here ∙ ap test e ∙ holds
    go (no n) holds later = later (omega arith) (omega arith)

-- bytes that stand somewhere the test finds there
pub says_test : {s : List ℕ} {p : ℕ} {bytes : List ℕ} → Says s p bytes → says_at s p bytes ≡ true
unfolding says_at
says_test says_all = refl
says_test {s} {p} (says_byte {b} e more) = rw (eq-eqb (byte_at s p) b e) (says_test more)

-- what it finds stands there
pub test_says : (s : List ℕ) (p : ℕ) (bytes : List ℕ) → says_at s p bytes ≡ true → Says s p bytes
unfolding says_at
test_says s p [] e = says_all
test_says s p (b ∷ bytes) e =
    let parts = and_parts (eqb (byte_at s p) b) (says_at s (suc p) bytes) e in
    says_byte (eqb-true (byte_at s p) b parts.0) (test_says s (suc p) bytes parts.1)

-- what does not stand there it does not find
pub says_not : (s : List ℕ) (p : ℕ) (bytes : List ℕ) → (Says s p bytes → ⊥) → says_at s p bytes ≡ false
says_not s p bytes n = not_holds (says_at s p bytes) (λ e. n (test_says s p bytes e))

-- an answer that says whether they stand there is the test's
pub says_told : (s : List ℕ) (p : ℕ) (bytes : List ℕ) (t : Bool) → (t ≡ true → Says s p bytes) → (t ≡ false → Says s p bytes → ⊥)
    → t ≡ says_at s p bytes
says_told s p bytes true there missing = sym (says_test (there refl))
says_told s p bytes false there missing = sym (says_not s p bytes (missing refl))

-- ---- a piece of a text

-- the byte at a place of a piece
piece_byte : (s : List ℕ) (p q i : ℕ) → p ≤ i → i < q → get_or (piece s p q) (i - p) 0 ≡ byte_at s i
piece_byte s p q i l h =
    let e : p + (i - p) ≡ i = omega arith in
    get_or-take (q - p) (drop p s) (i - p) 0 (omega arith) ∙ get_or-drop p s (i - p) 0 ∙ ap (byte_at s) e

piece_length : (s : List ℕ) (p q : ℕ) → q ≤ length s → length (piece s p q) ≡ q - p
piece_length s p q h = length-take (q - p) (drop p s) ∙ rw (length-drop p s) (omega arith)

module _ (test : ℕ → Bool) (s : List ℕ) (p q : ℕ) (within : q ≤ length s) where
  -- a test that all its bytes meet
  pub piece_all : ((i : ℕ) → p ≤ i → i < q → test (byte_at s i) ≡ true) → every test (piece s p q) ≡ true
  piece_all f =
      every_places test (piece s p q) 0 λ i h.
      let here : p + i < q = omega (arith, piece_length s p q within) in
      let back : p + i - p ≡ i = omega arith in
      let same = piece_byte s p q (p + i) (omega arith) here in
      ap test (rw back at same) ∙ f (p + i) (omega arith) here

  -- one that some byte fails
  pub piece_other : (i : ℕ) → p ≤ i → i < q → test (byte_at s i) ≡ false → every test (piece s p q) ≡ false
  piece_other i l h e =
      let here : i - p < length (piece s p q) = omega (arith, piece_length s p q within) in
      not_holds (every test (piece s p q)) λ f.
      holds_fails (test (byte_at s i)) (ap test (sym (piece_byte s p q i l h)) ∙ every_in test f (get_d_in (piece s p q) (i - p) 0 here)) e
