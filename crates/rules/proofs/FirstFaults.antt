-- What searches for the faults of a split find is what the judge's answer is made of. Assumes nothing.
use mathlib.Core.Path.{◌≡◌, refl, ap}
use mathlib.Core.Bool.{Bool, true, false, not, ◌||◌, ◌&&◌}
use mathlib.Core.List.{List, [], ◌∷◌}
use Rattle.rules.specs.Options.{None, Some}
use Prim.Native.Nat.{ℕ, zero, suc, ◌<◌}
use native.Mathlib.Omega.{arith}
use lib.Dec.{eqb}
use lib.ListN.{length, get_or}
use Rattle.rules.specs.Lists.{first_where}
use Rattle.rules.specs.Sets.{within}
use Rattle.rules.specs.Needs.{Need, meets}
use Rattle.rules.specs.Jobs.{Job, breaks, unlinked}
use Rattle.rules.specs.Numbers.{set_unfit}
use Rattle.rules.specs.Splits.{proper, met}
use Rattle.rules.specs.Verdicts.{improper, forbids, shares, unmet, right}
use Rattle.rules.specs.Verdicts.{Places, first_improper, first_forbidden, first_sharing, first_unmet, first_fault, verdict}
use Rattle.rules.proofs.Lists.{any_in, get_d_in, first_none}
use Rattle.rules.proofs.Searches.{NoneBefore, first_found, nothing_found}

-- ---- extract i contains forbidden set j

module _ (job : Job) where
  -- the extracts before i break no forbidden set
  abbrev pub SafeBefore : List ℕ → ℕ → Type 0
  SafeBefore split i = (k : ℕ) → k < i → first_where (breaks job (get_or split k 0)) job.forbidden ≡ None

  pub forbidden_found : (split : List ℕ) (i j : ℕ) → i < length split → SafeBefore split i
      → first_where (breaks job (get_or split i 0)) job.forbidden ≡ Some j → first_forbidden job split ≡ Some (record { i = i; j = j })
  unfolding first_forbidden
  forbidden_found [] i j h before e = absurd (omega arith)
  forbidden_found (s ∷ split) zero j h before e = rw e
  forbidden_found (s ∷ split) (suc i) j h before e =
      let here : first_where (breaks job s) job.forbidden ≡ None = before 0 (omega arith) in
      rw (here, forbidden_found split i j (omega arith) (λ k l. before (suc k) (omega arith)) e)

  pub forbidden_nothing : (split : List ℕ) → SafeBefore split (length split) → first_forbidden job split ≡ None
  unfolding first_forbidden
  forbidden_nothing [] before = refl
  forbidden_nothing (s ∷ split) before =
      let here : first_where (breaks job s) job.forbidden ≡ None = before 0 (omega arith) in
      rw (here, forbidden_nothing split (λ k l. before (suc k) (omega arith)))

-- ---- extracts i and j, i below j, share a column

module _ (job : Job) where
  -- extract i shares no column with a later one before j
  abbrev pub UnlinkedTo : List ℕ → ℕ → ℕ → Type 0
  UnlinkedTo split i j = (k : ℕ) → k < j → i < k → unlinked job (get_or split i 0) (get_or split k 0) ≡ true

  -- no extract before i shares a column with a later one
  abbrev pub UnlinkedBefore : List ℕ → ℕ → Type 0
  UnlinkedBefore split i = (k : ℕ) → k < i → UnlinkedTo split k (length split)

  first_later : (s : ℕ) (split : List ℕ) (j : ℕ) → UnlinkedTo (s ∷ split) 0 (suc j) → NoneBefore (λ t. not (unlinked job s t)) 0 split j
  first_later s split j to k h = ap not (to (suc k) (omega arith) (omega arith))

  others_before : (s : ℕ) (split : List ℕ) (i : ℕ) → UnlinkedBefore (s ∷ split) (suc i) → UnlinkedBefore split i
  others_before s split i before k h m l g = before (suc k) (omega arith) (suc m) (omega arith) (omega arith)

  pub sharing_found : (split : List ℕ) (i j : ℕ) → i < j → j < length split → UnlinkedBefore split i → UnlinkedTo split i j
      → unlinked job (get_or split i 0) (get_or split j 0) ≡ false → first_sharing job split ≡ Some (record { i = i; j = j })
  unfolding first_sharing
  sharing_found [] i j o h before to e = absurd (omega arith)
  sharing_found (s ∷ split) i zero o h before to e = absurd (omega arith)
  sharing_found (s ∷ split) zero (suc j) o h before to e =
      rw (first_found (λ t. not (unlinked job s t)) 0 split j (omega arith) (first_later s split j to) (ap not e))
  sharing_found (s ∷ split) (suc i) (suc j) o h before to e =
      let here : first_where (λ t. not (unlinked job s t)) split ≡ None =
      nothing_found (λ t. not (unlinked job s t)) 0 split (first_later s split (length split) (before 0 (omega arith))) in
      rw (here, sharing_found split i j (omega arith) (omega arith) (others_before s split i before) (λ k l g. to (suc k) (omega arith) (omega arith)) e)

  pub sharing_nothing : (split : List ℕ) → UnlinkedBefore split (length split) → first_sharing job split ≡ None
  unfolding first_sharing
  sharing_nothing [] before = refl
  sharing_nothing (s ∷ split) before =
      let here : first_where (λ t. not (unlinked job s t)) split ≡ None =
      nothing_found (λ t. not (unlinked job s t)) 0 split (first_later s split (length split) (before 0 (omega arith))) in
      rw (here, sharing_nothing split (others_before s split (length split) before))

-- ---- a need is met by an extract or by none

pub met_found : (v : Need) (split : List ℕ) (i : ℕ) → i < length split → meets v (get_or split i 0) ≡ true → met split v ≡ true
unfolding met
met_found v split i h e = any_in (meets v) (get_d_in split i 0 h) e

pub met_nothing : (v : Need) (split : List ℕ) → NoneBefore (meets v) 0 split (length split) → met split v ≡ false
unfolding met
met_nothing v split before = first_none (meets v) split (nothing_found (meets v) 0 split before)

-- ---- the first fault of all

module _ (job : Job) (split : List ℕ) where
  pub says_improper : (i : ℕ) → first_improper job split ≡ Some i → verdict job split ≡ improper i
  unfolding verdict first_fault
  says_improper i e = rw e

  module _ (proper_all : first_improper job split ≡ None) where
    pub says_forbids : (p : Places) → first_forbidden job split ≡ Some p → verdict job split ≡ forbids p.i p.j
    unfolding verdict first_fault
    says_forbids p e = rw (proper_all, e)

    module _ (safe_all : first_forbidden job split ≡ None) where
      pub says_shares : (p : Places) → first_sharing job split ≡ Some p → verdict job split ≡ shares p.i p.j
      unfolding verdict first_fault
      says_shares p e = rw (proper_all, safe_all, e)

      module _ (unlinked_all : first_sharing job split ≡ None) where
        pub says_unmet : (k : ℕ) → first_unmet job.needs split ≡ Some k → verdict job split ≡ unmet k
        unfolding verdict first_fault
        says_unmet k e = rw (proper_all, safe_all, unlinked_all, e)

        pub says_right : first_unmet job.needs split ≡ None → verdict job split ≡ right
        unfolding verdict first_fault
        says_right e = rw (proper_all, safe_all, unlinked_all, e)

-- ---- what is unfit as a forbidden set is improper as an extract

same_not : (a b : Bool) → (a || not b) ≡ not (not a && b)
same_not true b = refl
same_not false true = refl
same_not false false = refl

pub unfit_improper : (job : Job) (n s : ℕ) → job.columns ≡ n → set_unfit n s ≡ not (proper job s)
unfolding set_unfit proper
unfit_improper job n s e = rw e (same_not (eqb s 0) (within n s))
