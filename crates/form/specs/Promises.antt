-- The promise of form as a relation of the text and the answer.
use Prim.{Unit}
use Rattle.std.specs.Prelude.{List, ℕ, Result, Ok, Err}
use Rattle.rules.specs.Texts.{HasForm, StopsAt}

-- the promise allows this answer for this text: it is of the form, or else stops at the place
abbrev pub Told : List ℕ → Result (Unit {0}) ℕ → Type 0
Told s (Ok _) = HasForm s
Told s (Err p) = StopsAt s p
