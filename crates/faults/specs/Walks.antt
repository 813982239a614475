-- What a walk over the names of a line, or over the lines of a section, gives step by step.
use Rattle.std.specs.Prelude.{◌≡◌, true, false, List, ℕ, ◌+◌, ◌<◌, Option, None, Some, length}
use Rattle.rules.specs.Signs.{byte_at, Says, in_name}
use Rattle.rules.specs.Names.{Spot, Run}
use Rattle.naming.specs.Words.{Skips, Words}
use Rattle.naming.specs.Sections.{key_of, width_of}
use Rattle.naming.specs.declared.sections.Section.{Section}
use Rattle.faults.specs.declared.walks.Names.{Names}
use Rattle.faults.specs.declared.walks.Lines.{Lines}

-- a walk over the names from a place on, past the signs before the first
pub record NamesFrom (s : List ℕ) (from : ℕ) (walk : Names) : Type 0 where
  pub text : walk.text.now ≡ s
  pub place : Skips s from walk.place

-- a name stands at the walk's place p, and the walk goes on past the signs behind it
pub record PassesName (old : Names) (p : ℕ) (new : Names) : Type 0 where
  pub text : new.text.now ≡ old.text.now
  pub here : p ≡ old.place
  pub inside : old.place < length old.text.now
  pub named : in_name (byte_at old.text.now old.place) ≡ true
  pub to : ℕ
  pub run : Run old.text.now old.place to
  pub skips : Skips old.text.now to new.place

-- the next name's place is given; or no name stands there, and the walk stays
abbrev pub GivesName : Names → Option ℕ → Names → Type 0
GivesName old None new = (in_name (byte_at old.text.now old.place) ≡ false) × (new ≡ old)
GivesName old (Some p) new = PassesName old p new

-- a walk over the lines from a place on
pub record LinesFrom (s : List ℕ) (kind : Section) (from : ℕ) (walk : Lines) : Type 0 where
  pub text : walk.text.now ≡ s
  pub section : walk.section ≡ kind
  pub place : walk.place ≡ from

-- a line stands at the walk's place p, and the walk goes on behind it
pub record PassesLine (old : Lines) (p : ℕ) (new : Lines) : Type 0 where
  pub text : new.text.now ≡ old.text.now
  pub section : new.section ≡ old.section
  pub here : p ≡ old.place
  pub inside : old.place < length old.text.now
  pub says : Says old.text.now old.place (key_of old.section)
  pub later : old.place < new.place
  pub ends : (q : ℕ) (names : List Spot) → Words old.text.now (old.place + width_of old.section) q names → new.place ≡ q + 1

-- the next line's place is given; or no line stands there, and the walk stays
abbrev pub GivesLine : Lines → Option ℕ → Lines → Type 0
GivesLine old None new = (Says old.text.now old.place (key_of old.section) → ⊥) × (new ≡ old)
GivesLine old (Some p) new = PassesLine old p new
