-- The names of a line as a walk over its bytes meets them, whatever signs stand between them.
use Rattle.std.specs.Prelude.{◌≡◌, Bool, true, false, not, ◌&&◌, List, [], ◌∷◌, ℕ, ◌+◌, ◌<◌, ◌≤◌, eqb, length}
use Rattle.rules.specs.Signs.{byte_at, Says, in_name, line_end, columns_key}
use Rattle.rules.specs.Names.{Spot, spot, Name}
use Rattle.rules.specs.Texts.{Line, line}

-- a byte that is neither in a name nor a line's end
abbrev pub is_sign : ℕ → Bool
is_sign b = not (in_name b) && not (eqb b line_end)

-- from place p to place q there are only signs, and the byte at q is none; or the text is at its end
pub record Skips (s : List ℕ) (p q : ℕ) : Type 0 where
  pub forward : p ≤ q
  pub inside : p ≤ length s → q ≤ length s
  pub signs : (i : ℕ) → p ≤ i → i < q → is_sign (byte_at s i) ≡ true
  pub stops : q < length s → is_sign (byte_at s q) ≡ false

-- from place p to place q no line ends, and at q one does; or the text is at its end
pub record Ends (s : List ℕ) (p q : ℕ) : Type 0 where
  pub forward : p ≤ q
  pub inside : p ≤ length s → q ≤ length s
  pub goes_on : (i : ℕ) → p ≤ i → i < q → byte_at s i ≡ line_end → ⊥
  pub stops : q < length s → byte_at s q ≡ line_end

-- the names from place p to place q, signs between them
pub data Between (s : List ℕ) : ℕ → ℕ → List Spot → Type 0 where
  nothing : {p : ℕ} → Between s p p []
  sign : {p q : ℕ} {names : List Spot} → is_sign (byte_at s p) ≡ true → Between s (p + 1) q names → Between s p q names
  word : {p r q : ℕ} {names : List Spot} → Name s p r → Between s r q names → Between s p q (spot s p r ∷ names)

-- the names from place p to the line's end at place q
pub record Words (s : List ℕ) (p q : ℕ) (names : List Spot) : Type 0 where
  pub between : Between s p q names
  pub ends : byte_at s q ≡ line_end

-- lines from place p to place q, each with the names behind its key; no such line follows
pub data Rows (s key : List ℕ) : ℕ → ℕ → List (Line (List Spot)) → Type 0 where
  no_row : {p : ℕ} → (Says s p key → ⊥) → Rows s key p p []
  one_row : {p r q : ℕ} {names : List Spot} {rows : List (Line (List Spot))} → Says s p key → Words s (p + length key) r names
      → Rows s key (r + 1) q rows → Rows s key p q (line p names ∷ rows)

-- the names of the columns stand behind `columns=`
abbrev pub columns_from : ℕ
columns_from = length columns_key
