-- Where the keys and the lines of sections lie. Assumes nothing.
use mathlib.Core.Path.{◌≡◌, refl, sym, ◌∙◌}
use mathlib.Core.Bool.{true}
use mathlib.Core.List.{List, ◌∷◌}
use Prim.Native.Nat.{ℕ, ◌+◌, ◌-◌, ◌<◌, ◌≤◌}
use native.Mathlib.Decide.{ℕ_discrete, dec_lt}
use native.Mathlib.Omega.{arith}
use lib.Dec.{ltb}
use lib.ListN.{length}
use borrow.Author.Tests.{ltb-true}
use Rattle.rules.specs.Lists.{every}
use Rattle.rules.specs.Signs.{byte_at, Says, line_end}
use Rattle.rules.specs.Names.{Spot}
use Rattle.rules.specs.Texts.{Number, one_digit, two_digits}
use Rattle.rules.proofs.Signs.{inside, says_first, says_every}
use Rattle.rules.proofs.Texts.{digit_or_end}
use Rattle.naming.specs.Words.{Ends, Words}
use Rattle.naming.specs.Sections.{key_of, width_of}
use Rattle.naming.specs.declared.sections.Section.{Section}
use Rattle.naming.specs.declared.sections.Section.TheVariants.{Columns, Forbid, Need, End}
use Rattle.naming.proofs.Walks.{between_forward}

-- ---- within the text

-- a byte that is not 0 lies within the text
pub byte_inside : (s : List ℕ) {p b : ℕ} → byte_at s p ≡ b → (b ≡ 0 → ⊥) → p < length s
byte_inside s {p} e n = inside s p (λ z. n (sym e ∙ z))

-- where a line begins lies within the text
pub line_inside : {s : List ℕ} {p b : ℕ} {key : List ℕ} → Says s p (b ∷ key) → (b ≡ 0 → ⊥) → p < length s
line_inside {s} says n = byte_inside s (says_first says).0 n

-- so does where one of a section begins
pub key_inside : {s : List ℕ} (section : Section) {p : ℕ} → Says s p (key_of section) → p < length s
key_inside Columns says = line_inside says (λ z. absurd (omega arith))
key_inside Forbid says = line_inside says (λ z. absurd (omega arith))
key_inside Need says = line_inside says (λ z. absurd (omega arith))
key_inside End says = line_inside says (λ z. absurd (omega arith))

-- a key has a few bytes
pub width_bounds : (section : Section) → (1 ≤ width_of section) × (width_of section ≤ 8)
width_bounds Columns = (omega arith, omega arith)
width_bounds Forbid = (omega arith, omega arith)
width_bounds Need = (omega arith, omega arith)
width_bounds End = (omega arith, omega arith)

-- a line ends within the text
pub words_inside : {s : List ℕ} {p q : ℕ} {names : List Spot} → Words s p q names → (p ≤ q) × (q < length s)
words_inside {s} w = (between_forward w.between, byte_inside s w.ends (λ z. absurd (omega arith)))

-- ---- a line goes to its end

-- every byte of a key is a greater number than a line's end
key_over : (section : Section) → every (ltb line_end) (key_of section) ≡ true
unfolding every
key_over Columns = refl
key_over Forbid = refl
key_over Need = refl
key_over End = refl

-- the line whose value goes to a line's end
pub key_line : {s : List ℕ} (section : Section) {p q : ℕ} → Says s p (key_of section) → Ends s (p + width_of section) q → Ends s p q
key_line {s} section {p} {q} says ends =
    let some = (width_bounds section).0 in
    let last = p + width_of section - 1 in
    let here = inside s last (λ z. omega (arith, over last (omega arith) (omega arith))) in
    record {
      forward = omega (arith, ends.forward);
      inside = λ l. ends.inside (omega arith);
      goes_on = λ i l h e. go i l h e (dec_lt i (p + width_of section));
      stops = ends.stops;
    }
  where
    over : (i : ℕ) → p ≤ i → i < p + width_of section → line_end < byte_at s i
    over i l h = ltb-true line_end (byte_at s i) (says_every (ltb line_end) (key_over section) says i l h)

    go : (i : ℕ) → p ≤ i → i < q → byte_at s i ≡ line_end → Dec (i < p + width_of section) → ⊥
    go i l h e (yes k) = omega (arith, over i l k)
    go i l h e (no n) = ends.goes_on i (omega arith) h e

-- a number goes to the line's end behind it
pub number_line : {s : List ℕ} {p q n : ℕ} → Number s p q n → byte_at s q ≡ line_end → Ends s p q
number_line {s} {p} {q} number e =
    let within = byte_inside s e (λ z. absurd (omega arith)) in
    record { forward = forward number; inside = λ l. omega arith; goes_on = goes number; stops = λ l. e }
  where
    forward : {q n : ℕ} → Number s p q n → p ≤ q
    forward (one_digit d) = omega arith
    forward (two_digits d z f) = omega arith

    goes : {q n : ℕ} → Number s p q n → (i : ℕ) → p ≤ i → i < q → byte_at s i ≡ line_end → ⊥
    goes (one_digit d) i l h f = let here : i ≡ p = omega arith in digit_or_end (byte_at s p) d (rw here at f)
    goes (two_digits d z g) i l h f = second (ℕ_discrete i p)
      where
        second : Dec (i ≡ p) → ⊥
        second (yes here) = digit_or_end (byte_at s p) d (rw here at f)
        second (no n) = let next : i ≡ p + 1 = omega arith in digit_or_end (byte_at s (p + 1)) g (rw next at f)
