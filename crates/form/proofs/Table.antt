-- What the table of which section may follow which says of their order: each law is one computed test over all sections. Assumes nothing.
use mathlib.Core.Path.{◌≡◌, refl}
use mathlib.Core.Bool.{true}
use Rattle.rules.specs.Options.{None, Some}
use Prim.Native.Nat.{◌<◌, ◌≤◌}
use native.Mathlib.Omega.{arith}
use lib.Dec.{eqb, ltb, leb}
use borrow.Author.Tests.{eqb-true, ltb-true, leb-true, lt-ltb}
use Rattle.rules.specs.Lists.{every}
use Rattle.naming.specs.declared.sections.Section.{Section}
use Rattle.naming.specs.declared.sections.Section.TheVariants.{Columns, End}
use Rattle.naming.proofs.AllSections.{order, same_order, each, each_pair, whenever, then_holds}
use Rattle.form.specs.Order.{follows, likely}

-- the text begins with the columns
pub columns_first : (section : Section) → follows None section ≡ true → section ≡ Columns
unfolding every
columns_first section h =
    same_order
    (eqb-true (order section) 0
    (then_holds (follows None section) _ (each (λ a. whenever (follows None a) (eqb (order a) 0)) refl section) h))

-- they stand once
pub columns_once : (section : Section) → follows (Some Columns) section ≡ true → order Columns < order section
unfolding every
columns_once section h =
    ltb-true 0 (order section)
    (then_holds (follows (Some Columns) section) _ (each (λ a. whenever (follows (Some Columns) a) (ltb 0 (order a))) refl section) h)

-- no line of an earlier section follows
pub in_order : (before section : Section) → follows (Some before) section ≡ true → order before ≤ order section
unfolding every
in_order before section h =
    leb-true (order before) (order section)
    (then_holds (follows (Some before) section) _
    (each_pair (λ a b. whenever (follows (Some a) b) (leb (order a) (order b))) refl before section) h)

-- any line of a later section may
pub later_may : (before section : Section) → order before < order section → follows (Some before) section ≡ true
unfolding every
later_may before section h =
    then_holds (ltb (order before) (order section)) _
    (each_pair (λ a b. whenever (ltb (order a) (order b)) (follows (Some a) b)) refl before section) (lt-ltb (order before) (order section) h)

-- where the end line may follow, so may the likely one
pub likely_may : (before : Section) → follows (Some before) End ≡ true → follows (Some before) (likely before) ≡ true
unfolding every
likely_may before h =
    then_holds (follows (Some before) End) _ (each (λ a. whenever (follows (Some a) End) (follows (Some a) (likely a))) refl before) h

-- the end is the last section
pub end_last : (section : Section) → order End ≤ order section → section ≡ End
unfolding every
end_last section h =
    let most = leb-true (order section) 3 (each (λ a. leb (order a) 3) refl section) in same_order (omega arith)
