-- Names in a job text. "A name is lowercase letters and digits, first a letter." "Names 1 to 12 bytes."
use Rattle.std.specs.Prelude.{◌≡◌, Bool, true, false, cond, ◌&&◌, List, [], ◌∷◌, ℕ, ◌+◌, ◌<◌, ◌≤◌, eqb, drop}
use Rattle.rules.specs.Signs.{byte_at, piece, letter, in_name}

abbrev pub most_name_bytes : ℕ
most_name_bytes = 12

-- letters and digits from place p to before place q, and none at q
pub record Run (s : List ℕ) (p q : ℕ) : Type 0 where
  pub forward : p ≤ q
  pub goes_on : (i : ℕ) → p ≤ i → i < q → in_name (byte_at s i) ≡ true
  pub ends : in_name (byte_at s q) ≡ false

-- a name stands from place p to before place q
pub record Name (s : List ℕ) (p q : ℕ) : Type 0 where
  pub begins : letter (byte_at s p) ≡ true
  pub run : Run s p q
  pub short : q ≤ p + most_name_bytes

-- a name and the place of its first byte
pub record Spot : Type 0 where
  pub place : ℕ
  pub name : List ℕ

abbrev pub spot : List ℕ → ℕ → ℕ → Spot
spot s p q = record { place = p; name = piece s p q }

-- names joined by a sign stand from place p to before place q; no sign follows
pub data Names (s : List ℕ) (sign : ℕ) : ℕ → ℕ → List Spot → Type 0 where
  last_name : {p q : ℕ} → Name s p q → (byte_at s q ≡ sign → ⊥) → Names s sign p q (spot s p q ∷ [])
  more_names : {p r q : ℕ} {spots : List Spot} → Name s p r → byte_at s r ≡ sign → Names s sign (r + 1) q spots
      → Names s sign p q (spot s p r ∷ spots)

-- the letters and digits that a list begins with
unfoldable pub beginning : List ℕ → List ℕ
beginning [] = []
beginning (b ∷ s) = cond (in_name b) (b ∷ beginning s) []

-- those that stand from place p on
abbrev pub name_at : List ℕ → ℕ → List ℕ
name_at s p = beginning (drop p s)

-- two names are the same
unfoldable pub same_name : List ℕ → List ℕ → Bool
same_name [] [] = true
same_name [] (c ∷ other) = false
same_name (b ∷ name) [] = false
same_name (b ∷ name) (c ∷ other) = eqb b c && same_name name other
