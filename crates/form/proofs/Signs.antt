-- Laws of digits and of the signs behind the items of a section. Assumes nothing.
use mathlib.Core.Path.{◌≡◌, refl, sym, ap, ◌∙◌}
use mathlib.Core.Bool.{true, false, not, true≢false}
use Prim.Native.Nat.{ℕ, suc}
use lib.Dec.{eqb}
use borrow.Author.Tests.{ne_eqb, not-true}
use Rattle.rules.specs.Lists.{every}
use Rattle.rules.specs.Signs.{digit, ampersand, bar, line_end, bracket_close}
use Rattle.rules.specs.Phrases.{Join, ors, ands, sign_of}
use Rattle.rules.proofs.Lists.{or_none}
use Rattle.naming.specs.declared.sections.Section.{Section}
use Rattle.naming.specs.declared.sections.Section.TheVariants.{Need}
use Rattle.form.specs.declared.machine.State.TheVariants.{Closed}
use Rattle.naming.specs.Sections.{sections}
use Rattle.form.specs.Machine.{joining, behind_item, new_line}
use Rattle.naming.proofs.AllSections.{each}

-- a digit is none of the bytes that are no digits
pub digit_not : (b c : ℕ) → digit c ≡ false → digit b ≡ true → b ≡ c → ⊥
digit_not b c f e z = true≢false (sym e ∙ ap digit z ∙ f)

-- the signs of both kinds of list join the items of a need
pub joins_need : (j : Join) → joining Need (sign_of j) ≡ true
joins_need ors = refl
joins_need ands = refl

-- no other byte does
pub joins_no_need : (b : ℕ) → (b ≡ ampersand → ⊥) → (b ≡ bar → ⊥) → joining Need b ≡ false
joins_no_need b f g = or_none (eqb b ampersand) (eqb b bar) (ne_eqb b ampersand f) (ne_eqb b bar g)

-- a byte that joins the items of no section
joins_none : (b : ℕ) → every (λ a. not (joining a b)) sections ≡ true → (section : Section) → joining section b ≡ false
joins_none b none section = not-true (joining section b) (each (λ a. not (joining a b)) none section)

-- a line of any section ends behind an item
pub line_over : (section : Section) → behind_item section 0 line_end ≡ new_line section
unfolding every
line_over section = rw (joins_none line_end refl section)

-- and a bracket closes there
pub bracket_over : (section : Section) (opened : ℕ) → behind_item section (suc opened) bracket_close ≡ Closed opened
unfolding every
bracket_over section opened = rw (joins_none bracket_close refl section)
