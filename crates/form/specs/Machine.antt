-- The machine that takes a text byte by byte: which state follows a state and a byte. The contracts of the machine cite it; that of form speaks of
-- the form alone.
use Prim.{Unit}
use Rattle.std.specs.Prelude.{◌≡◌, Bool, true, false, cond, ◌||◌, List, [], ◌∷◌, ℕ, zero, suc, ◌<◌, eqb, ltb, take, Option, None, Some}
use Rattle.rules.specs.Signs.{letter, digit, in_name, line_end, comma, plus, ampersand, bar, bracket_open, bracket_close}
use Rattle.rules.specs.Names.{most_name_bytes}
use Rattle.rules.specs.Phrases.{most_brackets}
use Rattle.naming.specs.Sections.{width_of, sections}
use Rattle.naming.specs.declared.sections.Section.{Section}
use Rattle.naming.specs.declared.sections.Section.TheVariants.{Columns, Forbid, Need, End}
use Rattle.form.specs.declared.machine.Digits.{Digits}
use Rattle.form.specs.declared.machine.Digits.TheVariants.{Nothing, Zero, Other, Two}
use Rattle.form.specs.declared.machine.State.{State}
use Rattle.form.specs.declared.machine.State.TheVariants.{Key, Name, Closed, Number, Done, Wrong}
use Rattle.form.specs.Order.{follows, likely}
use Rattle.form.specs.Keys.{goes_on}

-- ---- keys

-- behind a key: an item or the number must come
abbrev pub value_of : Section → State
value_of Columns = Name Columns 0 0
value_of Forbid = Name Forbid 0 0
value_of Need = Name Need 0 0
value_of End = Number Nothing

-- k bytes of a section's key stand: another one must come, or what stands behind the key
abbrev pub onward : Option Section → Section → ℕ → State
onward behind section k = cond (ltb k (width_of section)) (Key section behind k) (value_of section)

-- k bytes of a section's key stand, and b comes: it is a byte of the first of these keys that goes on with it
unfoldable pub first_on : Option Section → Section → ℕ → ℕ → List Section → State
first_on behind section k b [] = Wrong
first_on behind section k b (other ∷ others) =
    cond (goes_on behind section k b other) (onward behind other (suc k)) (first_on behind section k b others)

-- the section's own key is asked first. Two keys that go on alike are both possible still, so either may stand for the other
abbrev pub in_key : Option Section → Section → ℕ → ℕ → State
in_key behind section k b = first_on behind section k b (section ∷ sections)

-- a line begins behind one of this section: no byte of a key stands
abbrev pub new_line : Section → State
new_line section = Key (likely section) (Some section) 0

-- ---- values

-- the sign joins the items of a section
abbrev pub joining : Section → ℕ → Bool
joining Columns b = eqb b comma
joining Forbid b = eqb b plus
joining Need b = eqb b ampersand || eqb b bar
joining End b = false

-- the items of a section may be in brackets
abbrev pub has_brackets : Section → Bool
has_brackets Columns = false
has_brackets Forbid = false
has_brackets Need = true
has_brackets End = false

-- where an item must come
abbrev pub at_item : Section → ℕ → ℕ → State
at_item section opened b =
    cond (letter b) (Name section 1 opened)
    (cond (eqb b bracket_open) (cond (has_brackets section) (cond (ltb opened most_brackets) (Name section 0 (suc opened)) Wrong) Wrong) Wrong)

-- a bracket is closed, of so many that are open
abbrev pub closing : ℕ → State
closing zero = Wrong
closing (suc opened) = Closed opened

-- a line ends, where so many brackets are open
abbrev pub line_ending : Section → ℕ → State
line_ending section zero = new_line section
line_ending section (suc opened) = Wrong

-- behind an item
abbrev pub behind_item : Section → ℕ → ℕ → State
behind_item section opened b =
    cond (joining section b) (Name section 0 opened)
    (cond (eqb b bracket_close) (closing opened) (cond (eqb b line_end) (line_ending section opened) Wrong))

-- so many bytes of a name stand
abbrev pub name_on : Section → ℕ → ℕ → ℕ → State
name_on section zero opened b = at_item section opened b
name_on section (suc n) opened b =
    cond (in_name b) (cond (ltb (suc n) most_name_bytes) (Name section (suc (suc n)) opened) Wrong) (behind_item section opened b)

-- a digit behind what stands of the number; two digits never start with 0
abbrev pub on_digit : Digits → ℕ → State
on_digit Nothing b = cond (eqb b 48) (Number Zero) (Number Other)
on_digit Zero b = Wrong
on_digit Other b = Number Two
on_digit Two b = Wrong

-- the number's line ends
abbrev pub number_ending : Digits → State
number_ending Nothing = Wrong
number_ending Zero = Done
number_ending Other = Done
number_ending Two = Done

-- in the end line's number
abbrev pub in_number : Digits → ℕ → State
in_number digits b = cond (eqb b line_end) (number_ending digits) (cond (digit b) (on_digit digits b) Wrong)

-- ---- the machine

-- the state behind one more byte
abbrev pub step : State → ℕ → State
step (Key section behind k) b = in_key behind section k b
step (Name section count opened) b = name_on section count opened b
step (Closed opened) b = behind_item Need opened b
step (Number digits) b = in_number digits b
step Done b = Wrong
step Wrong b = Wrong

-- what holds of every state of a text: the key may stand there and fewer of its bytes stand than it has; the end line may follow a line of names
abbrev pub Possible : State → Type 0
Possible (Key section behind k) = (follows behind section ≡ true) × (k < width_of section)
Possible (Name section count opened) = follows (Some section) End ≡ true
Possible (Closed opened) = Unit {0}
Possible (Number digits) = Unit {0}
Possible Done = Unit {0}
Possible Wrong = Unit {0}

-- the state where the text begins: columns=
abbrev pub begin : State
begin = Key Columns None 0

-- the state behind all these bytes
unfoldable pub run : State → List ℕ → State
run state [] = state
run state (b ∷ bytes) = run (step state b) bytes

-- the state behind the first p bytes of a text
abbrev pub state_at : List ℕ → ℕ → State
state_at s p = run begin (take p s)
