-- Every state but the wrong one can be completed, so only a wrong state tells the place: the key, the name, the brackets and the line are
-- closed, then comes `end=0`. Assumes nothing.
use mathlib.Core.Path.{◌≡◌, refl, sym, ap, subst, ◌∙◌}
use mathlib.Core.Bool.{true}
use mathlib.Core.List.{List, [], ◌∷◌, ◌++◌}
use Rattle.rules.specs.Options.{Option, Some}
use Prim.Native.Nat.{ℕ, zero, suc, ◌-◌, ◌<◌}
use native.Mathlib.Omega.{arith}
use lib.Dec.{lit<}
use lib.ListN.{drop}
use Rattle.rules.specs.Signs.{line_end, bracket_close}
use Rattle.naming.specs.Sections.{key_of, width_of}
use Rattle.naming.specs.declared.sections.Section.{Section}
use Rattle.naming.specs.declared.sections.Section.TheVariants.{Columns, Forbid, Need, End}
use Rattle.form.specs.declared.machine.Digits.{Digits}
use Rattle.form.specs.declared.machine.Digits.TheVariants.{Nothing, Zero, Other, Two}
use Rattle.form.specs.declared.machine.State.{State}
use Rattle.form.specs.declared.machine.State.TheVariants.{Key, Name, Closed, Number, Done, Wrong}
use Rattle.form.specs.Order.{follows, likely}
use Rattle.form.specs.Machine.{value_of, new_line, step, Possible, run}
use Rattle.naming.proofs.KeysApart.{SameTo}
use Rattle.form.proofs.Signs.{line_over, bracket_over}
use Rattle.form.proofs.Runs.{run_append}
use Rattle.form.proofs.RunKeys.{run_key}

-- bytes that lead from a state to the end
abbrev pub CanEnd : State → Type 0
CanEnd state = (more : List ℕ) × (run state more ≡ Done)

-- a completion behind one byte more
byte_more : (b : ℕ) (state : State) → CanEnd (step state b) → CanEnd state
unfolding run
byte_more b state c = (b ∷ c.0, c.1)

-- ---- keys

module _ (behind : Option Section) (section : Section) (may : follows behind section ≡ true) where
  complete_key : (other : Section) (k : ℕ) → SameTo other section k → k < width_of section → CanEnd (value_of section) → CanEnd (Key other behind k)
  complete_key other k same h value =
      let key = key_of section in (
        drop k key ++ value.0,
        run_append (Key other behind k) (drop k key) value.0
            ∙ ap (λ (state : State). run state value.0) (run_key behind section may (width_of section - suc k) other k (omega arith) same)
            ∙ value.1,
      )

-- ---- values

complete_number : (digits : Digits) → CanEnd (Number digits)
unfolding run
complete_number Nothing = (48 ∷ line_end ∷ [], refl)
complete_number Zero = (line_end ∷ [], refl)
complete_number Other = (line_end ∷ [], refl)
complete_number Two = (line_end ∷ [], refl)

-- the end line follows
complete_line : (section : Section) → follows (Some section) End ≡ true → CanEnd (new_line section)
complete_line section ends = complete_key (Some section) End ends (likely section) 0 (λ i h. absurd (omega arith)) (lit< tt) (complete_number Nothing)

complete_closed : (opened : ℕ) → CanEnd (Closed opened)
complete_closed zero = byte_more line_end (Closed zero) (complete_line Need refl)
complete_closed (suc opened) = byte_more bracket_close (Closed (suc opened)) (complete_closed opened)

module _ (section : Section) (ends : follows (Some section) End ≡ true) where
  complete_named : (n opened : ℕ) → CanEnd (Name section (suc n) opened)
  complete_named n zero = byte_more line_end (Name section (suc n) zero) (subst CanEnd (sym (line_over section)) (complete_line section ends))
  complete_named n (suc opened) =
      byte_more bracket_close (Name section (suc n) (suc opened)) (subst CanEnd (sym (bracket_over section opened)) (complete_closed opened))

  complete_name : (n opened : ℕ) → CanEnd (Name section n opened)
  complete_name zero opened = byte_more 97 (Name section zero opened) (complete_named 0 opened)
  complete_name (suc n) opened = complete_named n opened

complete_value : (section : Section) → CanEnd (value_of section)
complete_value Columns = complete_name Columns refl 0 0
complete_value Forbid = complete_name Forbid refl 0 0
complete_value Need = complete_name Need refl 0 0
complete_value End = complete_number Nothing

-- ---- the states

-- every possible state but the wrong one can be completed
pub can_end : (state : State) → Possible state → (state ≡ Wrong → ⊥) → CanEnd state
unfolding run
can_end (Key section behind k) h f = complete_key behind section h.0 section k (λ i l. refl) h.1 (complete_value section)
can_end (Name section n opened) h f = complete_name section h n opened
can_end (Closed opened) h f = complete_closed opened
can_end (Number digits) h f = complete_number digits
can_end Done h f = ([], refl)
can_end Wrong h f = absurd (f refl)
