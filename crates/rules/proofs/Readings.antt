-- One text has one answer, and which it is. Assumes nothing.
use mathlib.Core.Path.{◌≡◌, refl, sym, ap, subst, ◌∙◌}
use mathlib.Core.Logic.{◌↔◌}
use mathlib.Core.Bool.{Bool, true, false, true≢false}
use mathlib.Core.List.{List}
use Rattle.rules.specs.Options.{Option, None, Some, Option-elim}
use Prim.Native.Nat.{ℕ, ◌<◌, ◌≤◌}
use native.Mathlib.Omega.{arith}
use lib.ListN.{length}
use Rattle.rules.specs.Numbers.{Numbers}
use Rattle.rules.specs.Refusals.{text_too_long, text_not_of_form}
use Rattle.rules.specs.Texts.{Sheet, OfForm, StopsAt}
use Rattle.rules.specs.Sheets.{Refusal, refusal, sheet_fault, numbers_of, names_of}
use Rattle.rules.specs.Readings.{most_bytes, Reading, refused, taken, reading_of, Reads, too_long, not_of_form, of_form}
use Rattle.rules.proofs.Texts.{sheet_unique, stops_unique}
use Rattle.rules.specs.SheetFaults.{IsRight, HasFault}
use Rattle.rules.proofs.Faults.{right_exactly, fault_exactly, fault_number, fault_place}

-- one text has one answer
pub one_reading : {s : List ℕ} {r r' : Reading} → Reads s r → Reads s r' → r ≡ r'
one_reading (too_long l) (too_long m) = refl
one_reading (too_long l) (not_of_form m b) = absurd (omega arith)
one_reading (too_long l) (of_form sheet m g) = absurd (omega arith)
one_reading (not_of_form l a) (too_long m) = absurd (omega arith)
one_reading (not_of_form l a) (not_of_form m b) = ap (refused text_not_of_form) (stops_unique a b)
one_reading (not_of_form l a) (of_form sheet m g) = absurd (a.other_form (sheet, g))
one_reading (of_form sheet l f) (too_long m) = absurd (omega arith)
one_reading (of_form sheet l f) (not_of_form m b) = absurd (b.other_form (sheet, f))
one_reading (of_form sheet l f) (of_form sheet' m g) = ap reading_of (sheet_unique f g)

-- ---- which texts have which answer

-- a text of the form without a fault gives its numbers and names
pub reading_taken : (sheet : Sheet) → sheet_fault sheet ≡ None → reading_of sheet ≡ taken (numbers_of sheet) (names_of sheet)
unfolding reading_of Option-elim
reading_taken sheet e = rw e

-- a text of the form with a fault gives that
pub reading_refused : (sheet : Sheet) (f : Refusal) → sheet_fault sheet ≡ Some f → reading_of sheet ≡ refused f.number f.place
unfolding reading_of Option-elim
reading_refused sheet f e = rw e

refused_or_taken : {number place : ℕ} {q : Numbers} {names : List (List ℕ)} → refused number place ≡ taken q names → ⊥
refused_or_taken e = let z : ◌≡◌ {A = Bool} true false = cc in true≢false z

-- the text is not too long and of the form, its counts, names and end number are right, and these are its numbers and names
pub record Accepted (s : List ℕ) (q : Numbers) (names : List (List ℕ)) : Type 0 where
  pub sheet : Sheet
  pub short : length s ≤ most_bytes
  pub form : OfForm s sheet
  pub right : IsRight sheet
  pub numbers_said : q ≡ numbers_of sheet
  pub names_said : names ≡ names_of sheet

-- the text is not too long and of the form, and has this fault
pub record Faulty (s : List ℕ) (number place : ℕ) : Type 0 where
  pub sheet : Sheet
  pub short : length s ≤ most_bytes
  pub form : OfForm s sheet
  pub fault : HasFault sheet (refusal number place)

-- a text is accepted, with its numbers and names, exactly if it is not too long, of the form, and counts, names and end number are right
pub taken_exactly : (s : List ℕ) (q : Numbers) (names : List (List ℕ)) → Reads s (taken q names) ↔ Accepted s q names
taken_exactly s q names = (λ h. from h refl, into)
  where
    of : (sheet : Sheet) → length s ≤ most_bytes → OfForm s sheet → reading_of sheet ≡ taken q names → (o : Option Refusal) → sheet_fault sheet ≡ o
        → Accepted s q names
    of sheet l f e None h =
        let k = reading_taken sheet h in
        record { sheet = sheet; short = l; form = f; right = (right_exactly sheet f).0 h; numbers_said = cc; names_said = cc }
    of sheet l f e (Some g) h = absurd (refused_or_taken (sym (reading_refused sheet g h) ∙ e))

    from : {r : Reading} → Reads s r → r ≡ taken q names → Accepted s q names
    from (too_long l) e = absurd (refused_or_taken e)
    from (not_of_form l a) e = absurd (refused_or_taken e)
    from (of_form sheet l f) e = of sheet l f e (sheet_fault sheet) refl

    into : Accepted s q names → Reads s (taken q names)
    into a =
        let None = (right_exactly a.sheet a.form).1 a.right in
        rw (a.numbers_said, a.names_said, ← (reading_taken a.sheet None)) (of_form a.sheet a.short a.form)

-- what a refusal with this number and place can come from
data Cause (s : List ℕ) (number place : ℕ) : Type 0 where
  long : number ≡ text_too_long → place ≡ most_bytes → most_bytes < length s → Cause s number place
  stops : number ≡ text_not_of_form → length s ≤ most_bytes → StopsAt s place → Cause s number place
  fault : Faulty s number place → Cause s number place

cause : {s : List ℕ} {number place : ℕ} → Reads s (refused number place) → Cause s number place
cause {s} {number} {place} h = from h refl
  where
    number_is : {k m p q : ℕ} → refused k p ≡ refused m q → k ≡ m
    number_is e = cc

    place_is : {k m p q : ℕ} → refused k p ≡ refused m q → p ≡ q
    place_is e = cc

    of : (sheet : Sheet) → length s ≤ most_bytes → OfForm s sheet → reading_of sheet ≡ refused number place → (o : Option Refusal)
        → sheet_fault sheet ≡ o → Cause s number place
    of sheet l f e None h = absurd (refused_or_taken (sym e ∙ reading_taken sheet h))
    of sheet l f e (Some g) h =
        let k : refused number place ≡ refused g.number g.place = sym e ∙ reading_refused sheet g h in
        fault (record { sheet = sheet; short = l; form = f; fault = rw (number_is k, place_is k) ((fault_exactly sheet f g).0 h) })

    from : {r : Reading} → Reads s r → r ≡ refused number place → Cause s number place
    from (too_long l) e = long (sym (number_is e)) (sym (place_is e)) l
    from (not_of_form l a) e = stops (sym (number_is e)) l (subst (StopsAt s) (place_is e) a)
    from (of_form sheet l f) e = of sheet l f e (sheet_fault sheet) refl

-- a fault's number is over 2
fault_over : {s : List ℕ} {number place : ℕ} → Faulty s number place → 2 < number
fault_over a = (fault_number a.sheet a.fault).0

-- a text is refused as too long exactly if it is over 8,192 bytes, and then at place 8,192
pub too_long_exactly : (s : List ℕ) (p : ℕ) → Reads s (refused text_too_long p) ↔ ((most_bytes < length s) × (p ≡ most_bytes))
too_long_exactly s p = (λ h. from (cause h), λ t. rw t.1 (too_long t.0))
  where
    from : Cause s text_too_long p → (most_bytes < length s) × (p ≡ most_bytes)
    from (long e q l) = (l, q)
    from (stops e l a) = absurd (omega arith)
    from (fault a) = absurd (omega (arith, fault_over a))

-- a text is refused as not of the form, at place p, exactly if it is not too long and stops at p
pub not_of_form_exactly : (s : List ℕ) (p : ℕ) → Reads s (refused text_not_of_form p) ↔ ((length s ≤ most_bytes) × StopsAt s p)
not_of_form_exactly s p = (λ h. from (cause h), λ t. not_of_form t.0 t.1)
  where
    from : Cause s text_not_of_form p → (length s ≤ most_bytes) × StopsAt s p
    from (long e q l) = absurd (omega arith)
    from (stops e l a) = (l, a)
    from (fault a) = absurd (omega (arith, fault_over a))

-- a text is refused with another number exactly if it is not too long, of the form, and has this fault
pub faulty_exactly : (s : List ℕ) (number p : ℕ) → 2 < number → Reads s (refused number p) ↔ Faulty s number p
faulty_exactly s number p m = (λ h. from (cause h), into)
  where
    from : Cause s number p → Faulty s number p
    from (long e q l) = absurd (omega arith)
    from (stops e l a) = absurd (omega arith)
    from (fault a) = a

    into : Faulty s number p → Reads s (refused number p)
    into a =
        let Some = (fault_exactly a.sheet a.form (refusal number p)).1 a.fault in
        rw (← (reading_refused a.sheet (refusal number p) Some)) (of_form a.sheet a.short a.form)

-- so such a refusal comes from a fault of what the text says
pub refused_fault : {s : List ℕ} {number p : ℕ} → 2 < number → Reads s (refused number p) → (sheet : Sheet) → OfForm s sheet
    → HasFault sheet (refusal number p)
refused_fault {s} {number} {p} over h sheet form =
    let f = (faulty_exactly s number p over).0 h in
    subst (λ (k : Sheet). HasFault k (refusal number p)) (sheet_unique f.form form) f.fault

-- a refusal of a text has one of the numbers 1 to 6
pub refused_numbers : {s : List ℕ} {number p : ℕ} → Reads s (refused number p) → (0 < number) × (number < 7)
refused_numbers {s} {number} {p} h = go (cause h)
  where
    go : Cause s number p → (0 < number) × (number < 7)
    go (long e q l) = (omega arith, omega arith)
    go (stops e l a) = (omega arith, omega arith)
    go (fault a) = let n = fault_number a.sheet a.fault in (omega arith, omega arith)

-- and its place is at most 8,192
pub refused_place : {s : List ℕ} {number p : ℕ} → Reads s (refused number p) → p ≤ most_bytes
refused_place {s} {number} {p} h = go (cause h)
  where
    go : Cause s number p → p ≤ most_bytes
    go (long e q l) = omega arith
    go (stops e l a) = omega (arith, a.within)
    go (fault a) = omega (arith, a.short, fault_place a.sheet a.form a.fault)
