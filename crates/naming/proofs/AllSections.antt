-- All sections: their order, and a test of all of them as a law of each. Assumes nothing.
use mathlib.Core.Path.{◌≡◌, refl, sym, ap, ◌∙◌}
use mathlib.Core.Bool.{Bool, true, false, cond, true≢false}
use mathlib.Core.List.{Memᴰ}
use Prim.Native.Nat.{ℕ}
use lib.ListN.{get_or}
use Rattle.rules.specs.Lists.{every}
use Rattle.rules.proofs.Lists.{every_in}
use Rattle.naming.specs.Sections.{sections}
use Rattle.naming.specs.declared.sections.Section.{Section}
use Rattle.naming.specs.declared.sections.TheConstants.Section.{ALL}
use Rattle.naming.specs.declared.sections.Section.TheVariants.{Columns, Forbid, Need, End}

-- the place of a section in the order
abbrev pub order : Section → ℕ
order Columns = 0
order Forbid = 1
order Need = 2
order End = 3

-- the code's list of them is this one
pub all_listed : ALL ≡ sections
all_listed = refl

at_order : (section : Section) → get_or sections (order section) End ≡ section
at_order Columns = refl
at_order Forbid = refl
at_order Need = refl
at_order End = refl

-- two sections at one place are the same
pub same_order : {a b : Section} → order a ≡ order b → a ≡ b
same_order {a} {b} e = sym (at_order a) ∙ ap (λ (place : ℕ). get_or sections place End) e ∙ at_order b

-- every section is in the list
pub listed : (section : Section) → Memᴰ section sections
listed Columns = Memᴰ.head refl
listed Forbid = Memᴰ.tail (Memᴰ.head refl)
listed Need = Memᴰ.tail (Memᴰ.tail (Memᴰ.head refl))
listed End = Memᴰ.tail (Memᴰ.tail (Memᴰ.tail (Memᴰ.head refl)))

-- so a test of the list holds of each section, and one of its pairs of each pair
pub each : (test : Section → Bool) → every test sections ≡ true → (a : Section) → test a ≡ true
each test e a = every_in test e (listed a)

pub each_pair : (test : Section → Section → Bool) → every (λ a. every (test a) sections) sections ≡ true → (a b : Section) → test a b ≡ true
each_pair test e a b = each (test a) (each (λ a. every (test a) sections) e a) b

-- a test that asks for the second where the first holds
abbrev pub whenever : Bool → Bool → Bool
whenever one other = cond one other true

pub then_holds : (one other : Bool) → whenever one other ≡ true → one ≡ true → other ≡ true
then_holds true other e h = e
then_holds false other e h = absurd (true≢false (sym h))
