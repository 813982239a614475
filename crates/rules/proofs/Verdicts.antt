-- The judge says right exactly if the split is correct. Assumes nothing.
use mathlib.Core.Path.{◌≡◌, refl, sym, ap, ◌∙◌}
use mathlib.Core.Bool.{Bool, true, false, not, cond, true≢false}
use mathlib.Core.List.{List, [], ◌∷◌}
use Rattle.rules.proofs.Options.{Option, None, Some, option_map, unwrap_or, option_or, some-injective, none-ne-some}
use Prim.Native.Nat.{ℕ}
use borrow.Author.Tests.{not-false}
use Rattle.rules.specs.Lists.{every, first_where}
use Rattle.rules.specs.Jobs.{Job, breaks, allowed, unlinked}
use Rattle.rules.specs.Numbers.{Numbers, unfit, job_of}
use Rattle.rules.specs.Splits.{proper, all_unlinked, met, correct}
use Rattle.rules.specs.Verdicts.{Verdict, unfit_job, improper, forbids, shares, unmet, right, refusal_of}
use Rattle.rules.specs.Refusals.{numbers_unfit}
use Rattle.rules.specs.Verdicts.{Places, first_improper, first_forbidden, first_sharing, first_unmet, first_fault, verdict, judged}
use Rattle.rules.proofs.Lists.{and_parts, and_both, every_in, every_all, not_any_in, not_any_all, first_none, none_first}
use Rattle.rules.proofs.Searches.{else_none}
use Rattle.rules.proofs.Numbers.{unfit_none, fit_job}
use Rattle.rules.proofs.Jobs.{safe_means, means_safe, allowed_safe}
use Rattle.rules.proofs.Splits.{correct_parts, parts_correct}

-- ---- of several findings

module _ {A : Type 0} where
  none_else : (a b : Option A) → a ≡ None → b ≡ None → option_or a b ≡ None
  none_else None b p q = q
  none_else (Some a) b p q = p

  map_none : {B : Type 0} (f : A → B) (a : Option A) → option_map f a ≡ None → a ≡ None
  map_none f None e = refl
  map_none f (Some a) e = let z : ◌≡◌ {A = Bool} true false = cc in absurd (true≢false z)

  none_map : {B : Type 0} (f : A → B) (a : Option A) → a ≡ None → option_map f a ≡ None
  none_map f a e = ap (option_map f) e

  -- no place is found where the test fails exactly if it holds of every one
  faultless_every : (p : A → Bool) (xs : List A) → first_where (λ x. not (p x)) xs ≡ None → every p xs ≡ true
  faultless_every p xs e =
      every_all p xs (λ x m. not-false (p x) (not_any_in (λ x. not (p x)) (first_none (λ x. not (p x)) xs e) m))

  every_faultless : (p : A → Bool) (xs : List A) → every p xs ≡ true → first_where (λ x. not (p x)) xs ≡ None
  every_faultless p xs e = none_first (λ x. not (p x)) xs (not_any_all (λ x. not (p x)) xs (λ x m. ap not (every_in p e m)))

-- ---- a fault is never called right

-- true of right alone
abbrev is_right : Verdict → Bool
is_right unfit_job = false
is_right (improper i) = false
is_right (forbids i j) = false
is_right (shares i j) = false
is_right (unmet k) = false
is_right right = true

-- what holds of no fault and of each kind of fault holds of the first fault
module _ (P : Option Verdict → Type 0) where
  kind : {A : Type 0} (fault : A → Verdict) (o : Option A) (rest : Option Verdict) → ((a : A) → P (Some (fault a))) → P rest
      → P (option_or (option_map fault o) rest)
  kind fault None rest f p = p
  kind fault (Some a) rest f p = f a

  last_kind : {A : Type 0} (fault : A → Verdict) (o : Option A) → ((a : A) → P (Some (fault a))) → P None → P (option_map fault o)
  last_kind fault None f p = p
  last_kind fault (Some a) f p = f a

  any_fault : (job : Job) (split : List ℕ) → P None → ((i : ℕ) → P (Some (improper i))) → ((i j : ℕ) → P (Some (forbids i j)))
      → ((i j : ℕ) → P (Some (shares i j))) → ((k : ℕ) → P (Some (unmet k))) → P (first_fault job split)
  unfolding first_fault
  any_fault job split n a b c d =
      kind improper (first_improper job split) _ a
      (kind (λ (p : Places). forbids p.i p.j) (first_forbidden job split) _ (λ p. b p.i p.j)
      (kind (λ (p : Places). shares p.i p.j) (first_sharing job split) _ (λ p. c p.i p.j)
      (last_kind unmet (first_unmet job.needs split) d n)))

-- ---- each of the faults

module _ (job : Job) where
  unbroken_allowed : (s : ℕ) → first_where (breaks job s) job.forbidden ≡ None → allowed job s ≡ true
  unbroken_allowed s e =
      allowed_safe job s ∙ means_safe job s (λ f m. not_any_in (breaks job s) (first_none (breaks job s) job.forbidden e) m)

  allowed_unbroken : (s : ℕ) → allowed job s ≡ true → first_where (breaks job s) job.forbidden ≡ None
  allowed_unbroken s e =
      none_first (breaks job s) job.forbidden
      (not_any_all (breaks job s) job.forbidden (λ f m. safe_means job s f (sym (allowed_safe job s) ∙ e) m))

  forbidden_allowed : (split : List ℕ) → first_forbidden job split ≡ None → every (allowed job) split ≡ true
  unfolding first_forbidden every
  forbidden_allowed [] e = refl
  forbidden_allowed (s ∷ split) e =
      let o = else_none _ _ e in
      and_both (allowed job s) (every (allowed job) split) (unbroken_allowed s (map_none _ _ o.0)) (forbidden_allowed split (map_none _ _ o.1))

  allowed_forbidden : (split : List ℕ) → every (allowed job) split ≡ true → first_forbidden job split ≡ None
  unfolding first_forbidden every
  allowed_forbidden [] e = refl
  allowed_forbidden (s ∷ split) e =
      let p = and_parts (allowed job s) (every (allowed job) split) e in
      none_else _ _ (none_map _ _ (allowed_unbroken s p.0)) (none_map _ _ (allowed_forbidden split p.1))

  sharing_unlinked : (split : List ℕ) → first_sharing job split ≡ None → all_unlinked job split ≡ true
  unfolding first_sharing all_unlinked
  sharing_unlinked [] e = refl
  sharing_unlinked (s ∷ split) e =
      let o = else_none _ _ e in
      and_both (every (unlinked job s) split) (all_unlinked job split) (faultless_every (unlinked job s) split (map_none _ _ o.0))
      (sharing_unlinked split (map_none _ _ o.1))

  unlinked_sharing : (split : List ℕ) → all_unlinked job split ≡ true → first_sharing job split ≡ None
  unfolding first_sharing all_unlinked
  unlinked_sharing [] e = refl
  unlinked_sharing (s ∷ split) e =
      let p = and_parts (every (unlinked job s) split) (all_unlinked job split) e in
      none_else _ _ (none_map _ _ (every_faultless (unlinked job s) split p.0)) (none_map _ _ (unlinked_sharing split p.1))

  -- ---- all of them

  faultless_correct : (split : List ℕ) → first_fault job split ≡ None → correct job split ≡ true
  unfolding first_fault
  faultless_correct split e =
      let a = else_none _ _ e in
      let b = else_none _ _ a.1 in
      let c = else_none _ _ b.1 in
      parts_correct job split (record {
        proper = faultless_every (proper job) split (map_none _ _ a.0);
        allowed = forbidden_allowed split (map_none _ _ b.0);
        unlinked = sharing_unlinked split (map_none _ _ c.0);
        met = faultless_every (met split) job.needs (map_none _ _ c.1);
      })

  correct_faultless : (split : List ℕ) → correct job split ≡ true → first_fault job split ≡ None
  unfolding first_fault
  correct_faultless split e =
      let p = correct_parts job split e in
      none_else _ _ (none_map _ _ (every_faultless (proper job) split p.proper))
      (none_else _ _ (none_map _ _ (allowed_forbidden split p.allowed))
      (none_else _ _ (none_map _ _ (unlinked_sharing split p.unlinked))
      (none_map _ _ (every_faultless (met split) job.needs p.met))))

  never_right : (split : List ℕ) → first_fault job split ≡ Some right → ⊥
  never_right split =
      any_fault (λ o. o ≡ Some right → ⊥) job split (λ e. none-ne-some right e) (λ i. wrong (improper i) refl)
      (λ i j. wrong (forbids i j) refl) (λ i j. wrong (shares i j) refl) (λ k. wrong (unmet k) refl)
    where
      wrong : (v : Verdict) → is_right v ≡ false → Some v ≡ Some right → ⊥
      wrong v f e = true≢false (sym (ap is_right (some-injective v right e)) ∙ f)

  pub right_correct : (split : List ℕ) → verdict job split ≡ right → correct job split ≡ true
  unfolding verdict
  right_correct split e = go (first_fault job split) refl e
    where
      go : (o : Option Verdict) → first_fault job split ≡ o → unwrap_or o right ≡ right → correct job split ≡ true
      go None q r = faultless_correct split q
      go (Some v) q r = absurd (never_right split (q ∙ ap {B = Option Verdict} Some r))

  pub correct_right : (split : List ℕ) → correct job split ≡ true → verdict job split ≡ right
  unfolding verdict
  correct_right split e = rw (correct_faultless split e)

-- ---- no answer for a job is a refusal

pub verdict_given : (job : Job) (split : List ℕ) → refusal_of (verdict job split) ≡ None
unfolding verdict refusal_of
verdict_given job split =
    any_fault (λ o. refusal_of (unwrap_or o right) ≡ None) job split refl (λ i. refl) (λ i j. refl) (λ i j. refl) (λ k. refl)

-- ---- the answer for numbers

pub judged_job : (q : Numbers) (job : Job) (split : List ℕ) → job_of q ≡ Some job → judged q split ≡ verdict job split
unfolding judged
judged_job q job split e = rw e

pub judged_unfit : (q : Numbers) (split : List ℕ) → job_of q ≡ None → judged q split ≡ unfit_job
unfolding judged
judged_unfit q split e = rw e

-- "An unfit job gives 7", and no other job gives a refusal
pub judged_refusal : (q : Numbers) (split : List ℕ) → refusal_of (judged q split) ≡ cond (unfit q) (Some numbers_unfit) None
unfolding refusal_of
judged_refusal q split = go (unfit q) refl
  where
    go : (b : Bool) → unfit q ≡ b → refusal_of (judged q split) ≡ cond b (Some numbers_unfit) None
    go true u = rw (judged_unfit q split (unfit_none q u))
    go false u = let f = fit_job q u in rw (judged_job q f.0 split f.1.same) (verdict_given f.0 split)
