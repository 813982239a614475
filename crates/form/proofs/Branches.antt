-- The machine's clauses as the code asks them, by tests. Assumes nothing.
use mathlib.Core.Path.{◌≡◌, refl}
use mathlib.Core.Bool.{cond}
use Prim.Native.Nat.{ℕ, zero, suc, ◌+◌, ◌-◌}
use native.Mathlib.Numerals.{add-one}
use native.Mathlib.Omega.{arith}
use lib.Dec.{ltb}
use Rattle.rules.specs.Signs.{in_name}
use Rattle.rules.specs.Names.{most_name_bytes}
use Rattle.naming.specs.declared.sections.Section.{Section}
use Rattle.form.specs.declared.machine.State.TheVariants.{Name, Closed, Wrong}
use Rattle.form.specs.Machine.{new_line, at_item, closing, line_ending, behind_item, name_on}

-- a bracket that none opened, and one that closes the last
pub closing_none : (opened : ℕ) → opened ≡ 0 → closing opened ≡ Wrong
closing_none opened e = rw e

pub closing_one : (opened : ℕ) → (opened ≡ 0 → ⊥) → closing opened ≡ Closed (opened - 1)
closing_one zero h = absurd (h refl)
closing_one (suc opened) h = let less : suc opened - 1 ≡ opened = omega arith in rw less

-- a line may end where no bracket is open
pub ending_closed : (section : Section) (opened : ℕ) → opened ≡ 0 → line_ending section opened ≡ new_line section
ending_closed section opened e = rw e

pub ending_open : (section : Section) (opened : ℕ) → (opened ≡ 0 → ⊥) → line_ending section opened ≡ Wrong
ending_open section zero h = absurd (h refl)
ending_open section (suc opened) h = refl

-- no byte of a name stands, or some do
pub name_on_none : (section : Section) (n opened b : ℕ) → n ≡ 0 → name_on section n opened b ≡ at_item section opened b
name_on_none section n opened b e = rw e

pub name_on_some : (section : Section) (n opened b : ℕ) → (n ≡ 0 → ⊥)
    → name_on section n opened b ≡ cond (in_name b) (cond (ltb n most_name_bytes) (Name section (n + 1) opened) Wrong) (behind_item section opened b)
name_on_some section zero opened b h = absurd (h refl)
name_on_some section (suc n) opened b h = rw (add-one (suc n))
