-- A page to which bytes are added.
use Rattle.std.specs.Prelude.{◌≡◌, List, ◌++◌, ℕ, min, length}
use Rattle.rules.specs.Lists.{written}

-- the page holds a text, written over what stood there as far as there are places, and the next place comes behind it
pub record Holds (text old : List ℕ) (next : ℕ) (page : List ℕ) : Type 0 where
  pub place : next ≡ min (length text) (length old)
  pub held : page ≡ written text old

-- whatever text the page held, it then holds these bytes behind it
abbrev pub Adds : List ℕ → ℕ → List ℕ → ℕ → List ℕ → Type 0
Adds more next page after new = (text old : List ℕ) → Holds text old next page → Holds (text ++ more) old after new
