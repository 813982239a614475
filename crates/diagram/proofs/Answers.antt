-- What the numbers of an answer say of the answer itself. Assumes nothing.
use mathlib.Core.Path.{◌≡◌, refl, sym, ap, ◌∙◌}
use mathlib.Core.Bool.{cond}
use Prim.Native.Nat.{ℕ}
use native.Mathlib.Omega.{arith}
use lib.Dec.{eqb}
use Rattle.std.specs.Prelude.{Result, Ok, Err}
use Rattle.rules.specs.Numbers.{Numbers}
use Rattle.rules.specs.Drawings.{NodeSlices, PathSlices}
use Rattle.job.specs.declared.refusals.Refusal.{Refusal}
use Rattle.job.specs.declared.refusals.Refusal.TheVariants.{TextTooLong, TextNotOfForm, TooMany, NameTwice, NameUnknown, EndNumberOther}
use Rattle.job.specs.declared.refusals.Refusal.TheVariants.{NumbersUnfit, SliceTooShort, NoCorrectSplit}
use Rattle.job.specs.Refusals.{number_of}
use Rattle.diagram.specs.Promises.{DrawnNumbers, Draws, ListedNumbers, Lists}
use Rattle.diagram.specs.Answers.{drawn_numbers, listed_numbers}
use Rattle.diagram.specs.declared.Drawn.{Drawn}
use Rattle.diagram.specs.declared.Listed.{Listed}
use Rattle.diagram.proofs.Promises.{one_drawing, one_listing}

-- no refusal has the number 0
pub some_number : (refusal : Refusal) → number_of refusal ≡ 0 → ⊥
some_number TextTooLong e = omega (arith, e)
some_number TextNotOfForm e = omega (arith, e)
some_number TooMany e = omega (arith, e)
some_number NameTwice e = omega (arith, e)
some_number NameUnknown e = omega (arith, e)
some_number EndNumberOther e = omega (arith, e)
some_number NumbersUnfit e = omega (arith, e)
some_number SliceTooShort e = omega (arith, e)
some_number NoCorrectSplit e = omega (arith, e)

-- ---- two refusals with one number are one

named : ℕ → Refusal
named number =
    cond (eqb number 1) TextTooLong (cond (eqb number 2) TextNotOfForm (cond (eqb number 3) TooMany (cond (eqb number 4) NameTwice
    (cond (eqb number 5) NameUnknown (cond (eqb number 6) EndNumberOther (cond (eqb number 7) NumbersUnfit
    (cond (eqb number 8) SliceTooShort NoCorrectSplit)))))))

named_back : (refusal : Refusal) → named (number_of refusal) ≡ refusal
unfolding named
named_back TextTooLong = refl
named_back TextNotOfForm = refl
named_back TooMany = refl
named_back NameTwice = refl
named_back NameUnknown = refl
named_back EndNumberOther = refl
named_back NumbersUnfit = refl
named_back SliceTooShort = refl
named_back NoCorrectSplit = refl

pub same_number : (a b : Refusal) → number_of a ≡ number_of b → a ≡ b
same_number a b e = sym (named_back a) ∙ ap named e ∙ named_back b

-- ---- two answers with the same numbers are one

pub same_drawn : (a b : Result Drawn Refusal) → drawn_numbers a ≡ drawn_numbers b → a ≡ b
same_drawn (Ok a) (Ok b) e = ap Ok (λ i. record { root = (e i).root; count = (e i).count })
same_drawn (Ok a) (Err b) e = absurd (some_number b (sym (ap (λ (r : DrawnNumbers). r.refusal) e)))
same_drawn (Err a) (Ok b) e = absurd (some_number a (ap (λ (r : DrawnNumbers). r.refusal) e))
same_drawn (Err a) (Err b) e = ap Err (same_number a b (ap (λ (r : DrawnNumbers). r.refusal) e))

pub same_listed : (a b : Result Listed Refusal) → listed_numbers a ≡ listed_numbers b → a ≡ b
same_listed (Ok a) (Ok b) e = ap Ok (λ i. record { root = (e i).root; count = (e i).count; paths = (e i).paths })
same_listed (Ok a) (Err b) e = absurd (some_number b (sym (ap (λ (r : ListedNumbers). r.refusal) e)))
same_listed (Err a) (Ok b) e = absurd (some_number a (ap (λ (r : ListedNumbers). r.refusal) e))
same_listed (Err a) (Err b) e = ap Err (same_number a b (ap (λ (r : ListedNumbers). r.refusal) e))

-- ---- two answers that a promise allows are one

pub one_drawn : (q : Numbers) (k : ℕ) (old : NodeSlices) (a b : Result Drawn Refusal) (first second : NodeSlices)
    → Draws q k old (drawn_numbers a) first → Draws q k old (drawn_numbers b) second → (a ≡ b) × (first ≡ second)
one_drawn q k old a b first second r s =
    let one = one_drawing q k old (drawn_numbers a) (drawn_numbers b) first second r s in
    (same_drawn a b one.0, one.1)

pub one_listed : (q : Numbers) (k : ℕ) (old_nodes : NodeSlices) (old_paths : PathSlices) (a b : Result Listed Refusal) (first second : NodeSlices)
    (paths others : PathSlices) → Lists q k old_nodes old_paths (listed_numbers a) first paths
    → Lists q k old_nodes old_paths (listed_numbers b) second others → (a ≡ b) × (first ≡ second) × (paths ≡ others)
one_listed q k old_nodes old_paths a b first second paths others r s =
    let one = one_listing q k old_nodes old_paths (listed_numbers a) (listed_numbers b) first second paths others r s in
    (same_listed a b one.0, one.1, one.2)
