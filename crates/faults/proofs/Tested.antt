-- Names at fault: one name, the names of a line, the lines of a kind. Assumes nothing.
use mathlib.Core.Path.{◌≡◌, refl, sym, ◌∙◌}
use mathlib.Core.Bool.{Bool, true, false, cond}
use mathlib.Core.List.{List, [], ◌∷◌, ◌++◌, map}
use Rattle.rules.proofs.Options.{Option, None, Some, option_or, option_map, none-ne-some, some-ne-none}
use Prim.Native.Nat.{ℕ}
use Rattle.rules.specs.Refusals.{name_twice, name_unknown}
use Rattle.rules.specs.Names.{Spot, same_name}
use Rattle.rules.specs.Texts.{Line}
use Rattle.rules.specs.Sheets.{Refusal, refusal, column_named, stands_in, first_name_fault, lines_fault, column_fault, need_fault, forbid_fault}
use Rattle.rules.proofs.Lists.{none_first}
use Rattle.rules.proofs.ListTests.{first_below}
use Rattle.naming.specs.Words.{Between}
use Rattle.faults.proofs.Refusing.{first_there, then_next, map_first}

-- ---- one name

module _ (at : ℕ) where
  -- a number at the name's place
  abbrev pub located : Option ℕ → Option Refusal
  located = option_map (λ number. refusal number at)

  -- a name that stands before is there twice
  pub twice : (before : List Spot) (x : Spot) → stands_in before x ≡ true → Some (refusal name_twice at) ≡ located (column_fault before x)
  unfolding column_fault
  twice before x e = rw e

  -- else it is not
  pub once : (before : List Spot) (x : Spot) → stands_in before x ≡ false → None ≡ located (column_fault before x)
  unfolding column_fault
  once before x e = rw e

  module _ (columns before : List Spot) (x : Spot) where
    -- a name that is no column is unknown
    pub not_known : None ≡ column_named columns x.name → Some (refusal name_unknown at) ≡ located (need_fault columns before x)
    unfolding need_fault stands_in column_named
    not_known e = go (stands_in columns x) refl
      where
        go : (b : Bool) → stands_in columns x ≡ b → Some (refusal name_unknown at) ≡ located (cond b None (Some name_unknown))
        go true f =
            let first = first_below (λ c. same_name c.name x.name) columns f in
            absurd (none-ne-some first.0 (e ∙ first.1))
        go false f = refl

    -- else it is known
    pub known : {k : ℕ} → Some k ≡ column_named columns x.name → None ≡ located (need_fault columns before x)
    unfolding need_fault stands_in column_named
    known {k} e = go (stands_in columns x) refl
      where
        go : (b : Bool) → stands_in columns x ≡ b → None ≡ located (cond b None (Some name_unknown))
        go true f = refl
        go false f = absurd (some-ne-none k (e ∙ none_first (λ c. same_name c.name x.name) columns f))

  module _ (columns before : List Spot) (x : Spot) where
    -- in a forbid line a name is at fault as an unknown one before it is for standing there twice
    forbid_parts : located (forbid_fault columns before x) ≡ option_or (located (need_fault columns before x)) (located (column_fault before x))
    unfolding forbid_fault
    forbid_parts = map_first (λ number. refusal number at) (need_fault columns before x) (column_fault before x)

    -- a name in a forbid line that is unknown is at fault for that
    pub forbid_unknown : {y : Refusal} → Some y ≡ located (need_fault columns before x) → Some y ≡ located (forbid_fault columns before x)
    forbid_unknown e = first_there e _ ∙ sym forbid_parts

    -- else it is at fault if it stands before
    pub forbid_known : {o : Option Refusal} → None ≡ located (need_fault columns before x) → o ≡ located (column_fault before x)
        → o ≡ located (forbid_fault columns before x)
    forbid_known e f = then_next e f ∙ sym forbid_parts

-- ---- the names of a line

module _ (fault : List Spot → Spot → Option ℕ) (before : List Spot) (x : Spot) (names : List Spot) where
  -- the first name is at fault
  pub first_faulty : {y : Refusal} → Some y ≡ located x.place (fault before x) → Some y ≡ first_name_fault fault before (x ∷ names)
  unfolding first_name_fault
  first_faulty e = first_there e _

  -- or the others are left
  pub first_right : None ≡ located x.place (fault before x) → first_name_fault fault before (x ∷ names) ≡ first_name_fault fault (before ++ (x ∷ [])) names
  unfolding first_name_fault
  first_right e = sym (then_next e refl)

-- none of the names before this place is at fault: the first fault of all is the first of those left
pub record RightBefore (s : List ℕ) (fault : List Spot → Spot → Option ℕ) (from place : ℕ) (names later : List Spot) : Type 0 where
  pub before : List Spot
  pub between : Between s from place before
  pub same : first_name_fault fault [] names ≡ first_name_fault fault before later

-- with none left none is at fault
pub all_right : {s : List ℕ} {fault : List Spot → Spot → Option ℕ} {from place : ℕ} {names : List Spot} → RightBefore s fault from place names []
    → first_name_fault fault [] names ≡ None
unfolding first_name_fault
all_right right = right.same

-- ---- lines of names

module _ (fault : List Spot → Spot → Option ℕ) (l : Line (List Spot)) (lines : List (Line (List Spot))) where
  -- a name of the first line is at fault
  pub line_faulty : {x : Refusal} → Some x ≡ first_name_fault fault [] l.value → Some x ≡ lines_fault fault (map (λ l. l.value) (l ∷ lines))
  unfolding lines_fault
  line_faulty e = first_there e _

  -- or the other lines are left
  pub line_right : None ≡ first_name_fault fault [] l.value
      → lines_fault fault (map (λ l. l.value) (l ∷ lines)) ≡ lines_fault fault (map (λ l. l.value) lines)
  unfolding lines_fault
  line_right e = sym (then_next e refl)

-- in no line there is no fault
pub no_line_faulty : (fault : List Spot → Spot → Option ℕ) → lines_fault fault [] ≡ None
unfolding lines_fault
no_line_faulty fault = refl
