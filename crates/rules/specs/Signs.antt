-- The bytes of a job text. A byte is a number, as ASCII has it.
use Rattle.std.specs.Prelude.{◌≡◌, Bool, true, ◌&&◌, ◌||◌, List, [], ◌∷◌, ℕ, suc, ◌-◌, eqb, leb, get_or, take, drop}
use Prim.Native.Char.{code}
use Prim.Native.String.{String, [] as nothing, ◌∷◌ as ◌before◌}

-- the byte at a place; 0 past the end, which is no byte of the form
abbrev pub byte_at : List ℕ → ℕ → ℕ
byte_at s p = get_or s p 0

-- the bytes from place p to before place q
abbrev pub piece : List ℕ → ℕ → ℕ → List ℕ
piece s p q = take (q - p) (drop p s)

-- these bytes stand from place p on
pub data Says (s : List ℕ) : ℕ → List ℕ → Type 0 where
  says_all : {p : ℕ} → Says s p []
  says_byte : {p b : ℕ} {bytes : List ℕ} → byte_at s p ≡ b → Says s (suc p) bytes → Says s p (b ∷ bytes)

-- the same as a test
unfoldable pub says_at : List ℕ → ℕ → List ℕ → Bool
says_at s p [] = true
says_at s p (b ∷ bytes) = eqb (byte_at s p) b && says_at s (suc p) bytes

-- "a name is lowercase letters and digits"
abbrev pub letter : ℕ → Bool
letter b = leb 97 b && leb b 122

abbrev pub digit : ℕ → Bool
digit b = leb 48 b && leb b 57

abbrev pub in_name : ℕ → Bool
in_name b = letter b || digit b

-- LF
abbrev pub line_end : ℕ
line_end = 10

-- , + & | ( )
abbrev pub comma : ℕ
comma = 44

abbrev pub plus : ℕ
plus = 43

abbrev pub ampersand : ℕ
ampersand = 38

abbrev pub bar : ℕ
bar = 124

abbrev pub bracket_open : ℕ
bracket_open = 40

abbrev pub bracket_close : ℕ
bracket_close = 41

-- the bytes of words in ASCII
abbrev pub bytes : String → List ℕ
bytes nothing = []
bytes (c before s) = code c ∷ bytes s

-- the keys of a text's lines
abbrev pub columns_key : List ℕ
columns_key = bytes "columns="

abbrev pub forbid_key : List ℕ
forbid_key = bytes "forbid="

abbrev pub need_key : List ℕ
need_key = bytes "need="

abbrev pub end_key : List ℕ
end_key = bytes "end="
