-- Every state of a text is possible: the key may stand there and has a byte that can be asked for, and the end line may follow. Assumes nothing.
use mathlib.Core.Path.{◌≡◌, refl}
use mathlib.Core.Logic.{⊎_elim}
use mathlib.Core.Bool.{Bool, true, false, cond}
use mathlib.Core.List.{List, [], ◌∷◌}
use Rattle.rules.specs.Options.{Option, Some}
use Prim.Native.Nat.{ℕ, zero, suc}
use native.Mathlib.Omega.{arith}
use lib.Dec.{ltb, eqb, lit<}
use lib.ListN.{take}
use borrow.Author.Tests.{ltb-true}
use Rattle.rules.specs.Signs.{letter, digit, in_name, bracket_open, bracket_close, line_end}
use Rattle.rules.specs.Phrases.{most_brackets}
use Rattle.rules.specs.Names.{most_name_bytes}
use Rattle.naming.specs.Sections.{width_of}
use Rattle.naming.specs.declared.sections.Section.{Section}
use Rattle.naming.specs.declared.sections.Section.TheVariants.{Columns, Forbid, Need, End}
use Rattle.naming.proofs.KeyPlaces.{width_bounds}
use Rattle.form.specs.declared.machine.Digits.{Digits}
use Rattle.form.specs.declared.machine.Digits.TheVariants.{Nothing, Zero, Other, Two}
use Rattle.form.specs.declared.machine.State.{State}
use Rattle.form.specs.declared.machine.State.TheVariants.{Key, Name, Closed, Number, Done, Wrong}
use Rattle.naming.specs.Sections.{sections}
use Rattle.form.specs.Order.{follows, likely}
use Rattle.form.specs.Machine.{value_of, onward, joining, has_brackets, at_item, closing, line_ending, behind_item, on_digit, number_ending}
use Rattle.form.specs.Machine.{in_number, step, Possible, begin, run, state_at}
use Rattle.form.proofs.Table.{likely_may}
use Rattle.form.proofs.KeyLaws.{first_on_lem}

-- what a test chooses is possible if both are
possible_cond : (test : Bool) (x y : State) → (test ≡ true → Possible x) → Possible y → Possible (cond test x y)
possible_cond true x y f g = f refl
possible_cond false x y f g = g

-- ---- keys

possible_value : (section : Section) → Possible (value_of section)
possible_value Columns = refl
possible_value Forbid = refl
possible_value Need = refl
possible_value End = tt

possible_onward : (behind : Option Section) (section : Section) (k : ℕ) → follows behind section ≡ true → Possible (onward behind section k)
possible_onward behind section k may =
    possible_cond (ltb k (width_of section)) _ _ (λ e. (may, ltb-true k (width_of section) e)) (possible_value section)

possible_key : (behind : Option Section) (section : Section) (k b : ℕ) → Possible (step (Key section behind k) b)
possible_key behind section k b =
    ⊎_elim (λ goes. rw goes.2 (possible_onward behind goes.0 (suc k) goes.1.may)) (λ wrong. rw wrong tt)
    (first_on_lem behind section k b (section ∷ sections))

-- ---- values

possible_closing : (opened : ℕ) → Possible (closing opened)
possible_closing zero = tt
possible_closing (suc opened) = tt

-- in a line that the end line may follow
module _ (section : Section) (ends : follows (Some section) End ≡ true) where
  possible_item : (opened b : ℕ) → Possible (at_item section opened b)
  possible_item opened b =
      possible_cond (letter b) _ _ (λ e. ends)
      (possible_cond (eqb b bracket_open) _ _
      (λ e. possible_cond (has_brackets section) _ _ (λ e. possible_cond (ltb opened most_brackets) _ _ (λ e. ends) tt) tt) tt)

  possible_ending : (opened : ℕ) → Possible (line_ending section opened)
  possible_ending zero = let some = width_bounds (likely section) in (likely_may section ends, omega arith)
  possible_ending (suc opened) = tt

  possible_behind : (opened b : ℕ) → Possible (behind_item section opened b)
  possible_behind opened b =
      possible_cond (joining section b) _ _ (λ e. ends)
      (possible_cond (eqb b bracket_close) _ _ (λ e. possible_closing opened)
      (possible_cond (eqb b line_end) _ _ (λ e. possible_ending opened) tt))

  possible_name : (count opened b : ℕ) → Possible (step (Name section count opened) b)
  possible_name zero opened b = possible_item opened b
  possible_name (suc n) opened b =
      possible_cond (in_name b) _ _ (λ e. possible_cond (ltb (suc n) most_name_bytes) _ _ (λ e. ends) tt) (possible_behind opened b)

possible_digit : (digits : Digits) (b : ℕ) → Possible (on_digit digits b)
possible_digit Nothing b = possible_cond (eqb b 48) _ _ (λ e. tt) tt
possible_digit Zero b = tt
possible_digit Other b = tt
possible_digit Two b = tt

possible_number_ending : (digits : Digits) → Possible (number_ending digits)
possible_number_ending Nothing = tt
possible_number_ending Zero = tt
possible_number_ending Other = tt
possible_number_ending Two = tt

possible_number : (digits : Digits) (b : ℕ) → Possible (in_number digits b)
possible_number digits b =
    possible_cond (eqb b line_end) _ _ (λ e. possible_number_ending digits) (possible_cond (digit b) _ _ (λ e. possible_digit digits b) tt)

-- ---- the text

-- every step leads from a possible state to one
possible_step : (state : State) (b : ℕ) → Possible state → Possible (step state b)
possible_step (Key section behind k) b h = possible_key behind section k b
possible_step (Name section count opened) b h = possible_name section h count opened b
possible_step (Closed opened) b h = possible_behind Need refl opened b
possible_step (Number digits) b h = possible_number digits b
possible_step Done b h = tt
possible_step Wrong b h = tt

possible_run : (state : State) (bytes : List ℕ) → Possible state → Possible (run state bytes)
unfolding run
possible_run state [] h = h
possible_run state (b ∷ bytes) h = possible_run (step state b) bytes (possible_step state b h)

-- every state of a text is possible
pub possible_at : (s : List ℕ) (p : ℕ) → Possible (state_at s p)
possible_at s p = possible_run begin (take p s) (refl, lit< tt)
