-- The form of a job text, counts left aside. "Lines key=value, each ended by one LF, in this order: one columns= line, any number of forbid= lines,
-- any number of need= lines, one end= line, then nothing."
use Rattle.std.specs.Prelude.{◌≡◌, true, List, [], ◌∷◌, ◌++◌, ℕ, suc, ◌+◌, ◌-◌, ◌*◌, ◌<◌, ◌≤◌, length, take}
use Rattle.rules.specs.Signs.{byte_at, Says, digit, line_end, comma, plus, columns_key, forbid_key, need_key, end_key}
use Rattle.rules.specs.Names.{Spot, Names}
use Rattle.rules.specs.Phrases.{Formula, ors, list, most_brackets, Stands}

-- what a line says, and the place of its first byte
pub record Line (A : Type 0) : Type 0 where
  pub place : ℕ
  pub value : A

module _ {A : Type 0} where
  abbrev pub line : ℕ → A → Line A
  line p a = record { place = p; value = a }

  -- any number of lines with this key, from place p to before place q; no such line follows. Value p q a: a value that says a stands from p to q
  pub data Lines (s : List ℕ) (key : List ℕ) (Value : ℕ → ℕ → A → Type 0) : ℕ → ℕ → List (Line A) → Type 0 where
    no_line : {p : ℕ} → (Says s p key → ⊥) → Lines s key Value p p []
    one_line : {p r q : ℕ} {a : A} {lines : List (Line A)} → Says s p key → Value (p + length key) r a → byte_at s r ≡ line_end
        → Lines s key Value (r + 1) q lines → Lines s key Value p q (line p a ∷ lines)

-- "one or two digits, two digits never starting with 0", from place p to before place q
pub data Number (s : List ℕ) : ℕ → ℕ → ℕ → Type 0 where
  one_digit : {p : ℕ} → digit (byte_at s p) ≡ true → Number s p (p + 1) (byte_at s p - 48)
  two_digits : {p : ℕ} → digit (byte_at s p) ≡ true → (byte_at s p ≡ 48 → ⊥) → digit (byte_at s (p + 1)) ≡ true
      → Number s p (p + 2) (10 * (byte_at s p - 48) + (byte_at s (p + 1) - 48))

-- what a text of the form says. The end line stands with the place of its first digit
pub record Sheet : Type 0 where
  pub columns : List Spot
  pub forbids : List (Line (List Spot))
  pub needs : List (Line Formula)
  pub ended : Line ℕ

-- the text is of the form and says this
pub record OfForm (s : List ℕ) (sheet : Sheet) : Type 0 where
  pub columns_to : ℕ
  pub needs_from : ℕ
  pub end_from : ℕ
  pub number_to : ℕ
  pub columns_said : Says s 0 columns_key
  pub columns : Names s comma (length columns_key) columns_to sheet.columns
  pub columns_end : byte_at s columns_to ≡ line_end
  pub forbids : Lines s forbid_key (Names s plus) (columns_to + 1) needs_from sheet.forbids
  pub needs : Lines s need_key (Stands s (list ors) most_brackets) needs_from end_from sheet.needs
  pub end_said : Says s end_from end_key
  pub ended : sheet.ended.place ≡ end_from + length end_key
  pub number : Number s (end_from + length end_key) number_to sheet.ended.value
  pub number_end : byte_at s number_to ≡ line_end
  pub whole : length s ≡ number_to + 1

-- the text is of the form
abbrev pub HasForm : List ℕ → Type 0
HasForm s = (sheet : Sheet) × OfForm s sheet

-- bytes can follow, of any length, so that the text is of the form
abbrev pub CanGoOn : List ℕ → Type 0
CanGoOn s = (more : List ℕ) × HasForm (s ++ more)

-- the place of a text that is not of the form: "the first byte after which no continuation, of any length, could be of the form; the text's length
-- if it ends too early"
pub record StopsAt (s : List ℕ) (p : ℕ) : Type 0 where
  pub within : p ≤ length s
  pub before : (i : ℕ) → i ≤ p → CanGoOn (take i s)
  pub after : p < length s → CanGoOn (take (suc p) s) → ⊥
  pub other_form : HasForm s → ⊥
