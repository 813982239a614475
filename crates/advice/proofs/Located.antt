-- Lines and columns counted byte by byte. Assumes nothing.
use mathlib.Core.Path.{◌≡◌, sym, ap, ◌∙◌}
use mathlib.Core.List.{List}
use Prim.Native.Nat.{ℕ, ◌+◌, ◌≤◌, ◌<◌, min}
use native.Mathlib.Omega.{arith}
use native.Mathlib.Decide.{dec_lt}
use lib.ListN.{length, take}
use lib.Seq.{take_all, take-length}
use borrow.Author.Tests.{ne_eqb}
use Rattle.rules.specs.Signs.{byte_at, line_end}
use Rattle.rules.specs.Positions.{Position, behind, position_of}
use Rattle.rules.proofs.Positions.{behind_none, behind_more}
use Rattle.advice.specs.Positions.{position_in}
use Rattle.advice.specs.declared.position.Position.{Position as Found}

-- the bytes before a place, which may be past the end
pub before_place : (s : List ℕ) (place : ℕ) → take (min place (length s)) s ≡ take place s
before_place s place = go (dec_lt place (length s))
  where
    go : Dec (place < length s) → take (min place (length s)) s ≡ take place s
    go (yes h) = let all : min place (length s) ≡ place = omega arith in rw all
    go (no n) = let all : min place (length s) ≡ length s = omega arith in rw (all, take-length s, take_all place s (omega arith))

-- behind the first i bytes one is at this line and column
pub record Located (s : List ℕ) (i : ℕ) (found : Found) : Type 0 where
  pub lines : found.line ≤ i + 1
  pub columns : found.column ≤ i + 1
  pub is : position_in found ≡ position_of s i

-- at the first place
pub located_first : (s : List ℕ) → Located s 0 (record { line = 1; column = 1 })
located_first s = record { lines = omega arith; columns = omega arith; is = sym (behind_none s) }

module _ {s : List ℕ} {i : ℕ} {found : Found} (l : Located s i found) where
  -- at the place itself
  pub located_there : (place : ℕ) → i ≡ place → position_in found ≡ position_of s place
  located_there place e = l.is ∙ ap (position_of s) e

  -- behind all bytes before a place
  pub located_all : (text : List ℕ) (place : ℕ) → s ≡ take place text → length s ≤ i → position_in found ≡ position_of text place
  unfolding position_of
  located_all text place e h = l.is ∙ rw (take_all i s h, e)

  module _ (h : i < length s) where
    located_next : position_of s (i + 1) ≡ behind (position_in found) (byte_at s i)
    located_next = behind_more s i h ∙ ap (λ (p : Position). behind p (byte_at s i)) (sym l.is)

    -- behind a line's end
    pub located_line : byte_at s i ≡ line_end → Located s (i + 1) (record { line = found.line + 1; column = 1 })
    unfolding behind
    located_line e = record { lines = omega (arith, l.lines); columns = omega arith; is = sym (located_next ∙ rw e) }

    -- behind any other byte
    pub located_column : (byte_at s i ≡ line_end → ⊥) → Located s (i + 1) (record { line = found.line; column = found.column + 1 })
    unfolding behind
    located_column e =
        record { lines = omega (arith, l.lines); columns = omega (arith, l.columns); is = sym (located_next ∙ rw (ne_eqb (byte_at s i) line_end e)) }
