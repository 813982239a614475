-- The sections of a job text, each with the key that its lines begin with, and which of them the number at the end counts.
use Rattle.std.specs.Prelude.{Bool, true, false, ◌&&◌, List, [], ◌∷◌, ℕ, zero, suc, ◌+◌, ◌*◌, eqb, length}
use Rattle.rules.specs.Lists.{any_of}
use Rattle.rules.specs.Signs.{byte_at, says_at, columns_key, forbid_key, need_key, end_key}
use Rattle.naming.specs.declared.sections.Section.{Section}
use Rattle.naming.specs.declared.sections.Section.TheVariants.{Columns, Forbid, Need, End}

-- the bytes that a line begins with
abbrev pub key_of : Section → List ℕ
key_of Columns = columns_key
key_of Forbid = forbid_key
key_of Need = need_key
key_of End = end_key

-- how many they are
abbrev pub width_of : Section → ℕ
width_of section = length (key_of section)

-- bytes as one number, the first one lowest
unfoldable pub packed : List ℕ → ℕ
packed [] = 0
packed (b ∷ bytes) = b + 256 * packed bytes

-- all sections, in their order
abbrev pub sections : List Section
sections = Columns ∷ Forbid ∷ Need ∷ End ∷ []

-- the first k bytes of two keys are the same
unfoldable pub alike : Section → Section → ℕ → Bool
alike one other zero = true
alike one other (suc k) = eqb (byte_at (key_of one) k) (byte_at (key_of other) k) && alike one other k

-- the number at the end counts its lines
abbrev pub counted : Section → Bool
counted Columns = false
counted Forbid = true
counted Need = true
counted End = false

-- the key of a section whose lines it counts stands at place p
unfoldable pub counted_at : List ℕ → ℕ → Bool
counted_at s p = any_of (λ section. counted section && says_at s p (key_of section)) sections
