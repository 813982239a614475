-- What is wrong at a place, by the byte there and those before it. Assumes nothing.
use mathlib.Core.Path.{◌≡◌}
use mathlib.Core.Bool.{true, false, ◌||◌}
use mathlib.Core.List.{List}
use Prim.Native.Nat.{ℕ, ◌<◌}
use lib.ListN.{length}
use borrow.Author.Tests.{lt-leb, ne_eqb}
use Rattle.rules.specs.Signs.{byte_at, in_name, line_end, comma, plus, ampersand, bar, bracket_open, bracket_close}
use Rattle.advice.specs.Sentences.{equals, carriage_return, blank, tab, capital, joining, in_key, wrong_sign, wrong_at}

-- any other byte than these seven
pub joining_none : (b : ℕ) → (b ≡ equals → ⊥) → (b ≡ comma → ⊥) → (b ≡ plus → ⊥) → (b ≡ ampersand → ⊥) → (b ≡ bar → ⊥) → (b ≡ bracket_open → ⊥)
    → (b ≡ bracket_close → ⊥) → joining b ≡ false
unfolding joining
joining_none b h i j k l m n =
    rw (ne_eqb b equals h, ne_eqb b comma i, ne_eqb b plus j, ne_eqb b ampersand k, ne_eqb b bar l, ne_eqb b bracket_open m, ne_eqb b bracket_close n)

-- the byte at a place is within the text, and neither a carriage return, a blank nor a line's end
pub record Plain (s : List ℕ) (p : ℕ) : Type 0 where
  pub inside : p < length s
  pub no_return : byte_at s p ≡ carriage_return → ⊥
  pub no_blank : byte_at s p ≡ blank → ⊥
  pub no_tab : byte_at s p ≡ tab → ⊥
  pub no_end : byte_at s p ≡ line_end → ⊥

-- a byte of a job text that is in no key
pub wrong_sign_lem : (s : List ℕ) (p column : ℕ) → Plain s p → capital (byte_at s p) ≡ false → (in_name (byte_at s p) || joining (byte_at s p)) ≡ true
    → in_key s p column ≡ false → wrong_sign s p ≡ wrong_at s p column
unfolding wrong_at
wrong_sign_lem s p column plain small own e =
    rw (
      lt-leb (length s) p plain.inside,
      ne_eqb (byte_at s p) carriage_return plain.no_return,
      ne_eqb (byte_at s p) blank plain.no_blank,
      ne_eqb (byte_at s p) tab plain.no_tab,
      ne_eqb (byte_at s p) line_end plain.no_end,
      small,
      own,
      e,
    )
