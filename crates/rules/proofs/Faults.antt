-- Which fault a text of the form has, in the words of 01's table. Assumes nothing.
use mathlib.Core.Path.{◌≡◌, refl, sym, ap, subst}
use mathlib.Core.Logic.{◌⊎◌, inl, inr, ◌↔◌}
use mathlib.Core.Bool.{Bool, true, false, cond}
use mathlib.Core.List.{List}
use Rattle.rules.specs.Options.{Option, None, Some, option_map, option_or}
use Prim.Native.Nat.{ℕ, ◌<◌}
use native.Mathlib.Omega.{arith}
use borrow.Author.Tests.{eqb-true, eqb-false}
use lib.Dec.{eqb}
use lib.ListN.{length}
use Rattle.rules.specs.Refusals.{too_many_parts, end_number_other}
use Rattle.rules.specs.Texts.{Sheet, OfForm}
use Rattle.rules.specs.Sheets.{Refusal, refusal, first_over, lines_in, names_fault, end_fault, sheet_fault}
use Rattle.rules.specs.SheetFaults.{IsFault, column_twice, forbid_unknown, forbid_twice, need_unknown, IsRight, HasFault, too_many, name_wrong, end_wrong}
use Rattle.rules.proofs.Places.{sheet_ends}
use Rattle.rules.proofs.TooMany.{over_none, over_smallest, over_within}
use Rattle.rules.proofs.NameFaults.{names_fault_none, names_fault_smallest, names_fault_within}

module _ (sheet : Sheet) where
  -- there is one fault at most
  pub fault_unique : {f g : Refusal} → HasFault sheet f → HasFault sheet g → f ≡ g
  fault_unique (too_many {p} a b) (too_many {p = q} c d) = let e : p ≡ q = omega (arith, b q c, d p a) in ap (refusal too_many_parts) e
  fault_unique (too_many a b) (name_wrong c d e) = absurd (c _ a)
  fault_unique (too_many a b) (end_wrong c d e) = absurd (c _ a)
  fault_unique (name_wrong a b c) (too_many d e) = absurd (a _ d)
  fault_unique (name_wrong {f} a b c) (name_wrong {f = g} d e h) = go (c g e) (h f b)
    where
      go : (f ≡ g) ⊎ (f.place < g.place) → (g ≡ f) ⊎ (g.place < f.place) → f ≡ g
      go (inl e) k = e
      go (inr l) (inl e) = sym e
      go (inr l) (inr m) = absurd (omega arith)
  fault_unique (name_wrong a b c) (end_wrong d e h) = absurd (e _ b)
  fault_unique (end_wrong a b c) (too_many d e) = absurd (a _ d)
  fault_unique (end_wrong a b c) (name_wrong d e h) = absurd (b _ e)
  fault_unique (end_wrong a b c) (end_wrong d e h) = refl

  right_or_fault : {f : Refusal} → IsRight sheet → HasFault sheet f → ⊥
  right_or_fault r (too_many a b) = r.counts _ a
  right_or_fault r (name_wrong a b c) = r.names _ b
  right_or_fault r (end_wrong a b c) = c r.end

  -- a fault of a name has the number 4 or 5
  pub name_number : {f : Refusal} → IsFault sheet f → (too_many_parts < f.number) × (f.number < end_number_other)
  name_number (column_twice before after q a) = omega arith
  name_number (forbid_unknown m i a) = omega arith
  name_number (forbid_twice before after m q a b) = omega arith
  name_number (need_unknown m i a) = omega arith

  -- any fault has one of the numbers 3 to 6
  pub fault_number : {f : Refusal} → HasFault sheet f → (2 < f.number) × (f.number < 7)
  fault_number (too_many a b) = omega arith
  fault_number (name_wrong a b c) = let n = name_number b in omega arith
  fault_number (end_wrong a b c) = omega arith

  -- what the search finds
  abbrev Found : Option Refusal → Type 0
  Found None = IsRight sheet
  Found (Some f) = HasFault sheet f

  module _ {s : List ℕ} (form : OfForm s sheet) where
    -- such a fault stands within the text
    pub fault_place : {f : Refusal} → HasFault sheet f → f.place < length s
    fault_place (too_many a b) = over_within sheet _ form a
    fault_place (name_wrong a b c) = names_fault_within sheet _ form b
    fault_place (end_wrong a b c) = (sheet_ends form).1

    found : Found (sheet_fault sheet)
    unfolding sheet_fault end_fault
    found = go (first_over sheet) refl (names_fault sheet) refl (eqb sheet.ended.value (lines_in sheet)) refl
      where
        go : (o : Option ℕ) → first_over sheet ≡ o → (n : Option Refusal) → names_fault sheet ≡ n → (t : Bool) → eqb sheet.ended.value (lines_in sheet) ≡ t
            → Found (option_or (option_map (refusal too_many_parts) o) (option_or n (cond t None (Some (refusal end_number_other sheet.ended.place)))))
        go (Some p) e n h t k = let r = over_smallest sheet p form e in too_many r.0 r.1
        go None e (Some f) h t k = let r = names_fault_smallest sheet f form h in name_wrong (λ q. over_none sheet q e) r.0 r.1
        go None e None h true k =
            record { counts = λ q. over_none sheet q e; names = λ f. names_fault_none sheet f h; end = eqb-true _ _ k }
        go None e None h false k = end_wrong (λ q. over_none sheet q e) (λ f. names_fault_none sheet f h) (eqb-false _ _ k)

    -- a text of the form has no fault exactly if its counts, names and end number are right
    pub right_exactly : (sheet_fault sheet ≡ None) ↔ IsRight sheet
    right_exactly = (λ e. subst Found e found, λ r. go (sheet_fault sheet) found r)
      where
        go : (o : Option Refusal) → Found o → IsRight sheet → o ≡ None
        go None h r = refl
        go (Some f) h r = absurd (right_or_fault r h)

    -- a text of the form is refused with this number and place exactly if it has this fault
    pub fault_exactly : (f : Refusal) → (sheet_fault sheet ≡ Some f) ↔ HasFault sheet f
    fault_exactly f = (λ e. subst Found e found, λ r. go (sheet_fault sheet) found r)
      where
        go : (o : Option Refusal) → Found o → HasFault sheet f → o ≡ Some f
        go None h r = absurd (right_or_fault h r)
        go (Some g) h r = ap (λ (k : Refusal). Some k) (fault_unique h r)
