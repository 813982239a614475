-- What the promise of the call says: one outcome for each input, which refusal comes when, what is released, and what the answers for two jobs
-- have to do with each other. Assumes nothing.
use mathlib.Core.Path.{◌≡◌, refl, sym, ap, ◌∙◌}
use mathlib.Core.Bool.{true, false, cond}
use mathlib.Core.List.Memᴰ
use mathlib.Core.List.{List, [], ◌∷◌, Memᴰ}
use Rattle.std.specs.Prelude.{Result, Ok, Err}
use Rattle.rules.proofs.Options.{Some, some-injective}
use Prim.Native.Nat.{ℕ, ◌≤◌}
use native.Mathlib.Omega.{arith}
use lib.Dec.{eqb, ltb}
use lib.ListN.{length, take, drop}
use borrow.Author.Tests.{lt-ltb, le-ltb}
use Rattle.rules.specs.Lists.{written}
use Rattle.rules.specs.Needs.{Need, meets}
use Rattle.rules.specs.Jobs.{Job}
use Rattle.rules.specs.Numbers.{Numbers, unfit, job_of}
use Rattle.rules.specs.Splits.{correct}
use Rattle.rules.specs.Plans.{Planned as IsPlanned, plan}
use Rattle.rules.specs.Refusals.{numbers_unfit, slice_too_short, no_correct_split}
use Rattle.rules.specs.Plannings.{plan_room, Planning, planning, extracts_after}
use Rattle.rules.specs.Demands.{AsksNoMore}
use Rattle.rules.proofs.Lists.{holds_fails, not_holds}
use Rattle.rules.proofs.Written.{take_written, drop_written}
use Rattle.rules.proofs.Numbers.{fit_of_job, job_fit}
use Rattle.rules.proofs.Splits.{correct_means}
use Rattle.rules.proofs.Plans.{plan_planned, plan_none, none_plan}
use Rattle.rules.proofs.SamePlans.{same_correct_plan}
use Rattle.rules.proofs.Useful.{planned_few}
use Rattle.rules.proofs.Demands.{less_planned}
use Rattle.rules.proofs.Plannings.{Way, is_unfit, no_room, no_split, is_planned, planning_ways, planning_none, planning_planned, same_plan_planning}
use Rattle.job.specs.declared.refusals.Refusal.{Refusal}
use Rattle.job.specs.declared.refusals.Refusal.TheVariants.{TextTooLong, TextNotOfForm, TooMany, NameTwice, NameUnknown, EndNumberOther}
use Rattle.job.specs.declared.refusals.Refusal.TheVariants.{NumbersUnfit, SliceTooShort, NoCorrectSplit}
use Rattle.planner.specs.Promises.{Planned, planned_of, Plans, in_numbers}

-- two outcomes that the promise allows are equal
pub one_planning : (q : Numbers) (old : List ℕ) (r s : Planned) (first second : List ℕ) → Plans q old r first → Plans q old s second
    → (r ≡ s) × (first ≡ second)
one_planning q old r s first second a b = (a.answered ∙ sym b.answered, a.extracts ∙ sym b.extracts)

-- ---- answers in numbers

-- the refusal that has the number
named : ℕ → Refusal
named number =
    cond (eqb number 1) TextTooLong (cond (eqb number 2) TextNotOfForm (cond (eqb number 3) TooMany (cond (eqb number 4) NameTwice
    (cond (eqb number 5) NameUnknown (cond (eqb number 6) EndNumberOther (cond (eqb number 7) NumbersUnfit
    (cond (eqb number 8) SliceTooShort NoCorrectSplit)))))))

-- the answer that has these numbers
answer_named : Planned → Result ℕ Refusal
answer_named p = cond (eqb p.refusal 0) (Ok p.count) (Err (named p.refusal))

numbers_kept : (r : Result ℕ Refusal) → answer_named (in_numbers r) ≡ r
unfolding answer_named named
numbers_kept (Ok count) = refl
numbers_kept (Err TextTooLong) = refl
numbers_kept (Err TextNotOfForm) = refl
numbers_kept (Err TooMany) = refl
numbers_kept (Err NameTwice) = refl
numbers_kept (Err NameUnknown) = refl
numbers_kept (Err EndNumberOther) = refl
numbers_kept (Err NumbersUnfit) = refl
numbers_kept (Err SliceTooShort) = refl
numbers_kept (Err NoCorrectSplit) = refl

-- no two answers have the same numbers
pub in_numbers-injective : (r s : Result ℕ Refusal) → in_numbers r ≡ in_numbers s → r ≡ s
in_numbers-injective r s e = sym (numbers_kept r) ∙ ap answer_named e ∙ numbers_kept s

-- two answers that the promise allows are equal
pub one_answer : (q : Numbers) (old : List ℕ) (r s : Result ℕ Refusal) (first second : List ℕ) → Plans q old (in_numbers r) first
    → Plans q old (in_numbers s) second → (r ≡ s) × (first ≡ second)
one_answer q old r s first second a b =
    let one = one_planning q old (in_numbers r) (in_numbers s) first second a b in
    (in_numbers-injective r s one.0, one.1)

-- what a call that is not refused has planned and written
record Released (old : List ℕ) (job : Job) (r : Planned) (new : List ℕ) (split : List ℕ) : Type 0 where
  plan : plan job ≡ Some split
  right : IsPlanned job split
  count : r.count ≡ length split
  room : length split ≤ length old
  extracts : new ≡ written split old

module _ (old : List ℕ) (job : Job) (r : Planned) (new : List ℕ) (split : List ℕ) (is : Released old job r new split) where
  released_first : IsPlanned job (take r.count new)
  released_first = rw (is.count, is.extracts, take_written split old is.room) is.right

  released_rest : drop r.count new ≡ drop r.count old
  released_rest = rw (is.count, is.extracts) (drop_written split old)

-- where there is no extract, needs that are all met by one are no needs
none_visible : (needs : List Need) → ((v : Need) → Memᴰ v needs → (s : ℕ) × Memᴰ s [] × (meets v s ≡ true)) → needs ≡ []
none_visible [] f = refl
none_visible (v ∷ needs) f = absurd (Memᴰ.not-nil (f v (Memᴰ.head refl)).1)

no_extracts : (job : Job) (split : List ℕ) → correct job split ≡ true → length split ≡ 0 → job.needs ≡ []
no_extracts job [] c e = none_visible job.needs (correct_means job [] c).visible
no_extracts job (s ∷ split) c e = absurd (omega arith)

module _ (q : Numbers) (old : List ℕ) (r : Planned) (new : List ℕ) (a : Plans q old r new) where
  refusal_as : (w : Planning) → planning q old ≡ w → r.refusal ≡ (planned_of w).refusal
  refusal_as w f = ap (λ (d : Planned). d.refusal) (a.answered ∙ ap planned_of f)

  -- ---- which refusal comes

  -- 7 exactly if the numbers are unfit
  pub plans_unfit : eqb r.refusal numbers_unfit ≡ unfit q
  plans_unfit = go (planning q old) refl (planning_ways q old)
    where
      go : (w : Planning) → planning q old ≡ w → Way q old w → eqb r.refusal numbers_unfit ≡ unfit q
      go w f (is_unfit e) = rw (refusal_as w f, e)
      go w f (no_room job known h) = rw (refusal_as w f, fit_of_job q job known)
      go w f (no_split job known h e) = rw (refusal_as w f, fit_of_job q job known)
      go w f (is_planned job split known h e) = rw (refusal_as w f, fit_of_job q job known)

  module _ (job : Job) (known : job_of q ≡ Some job) where
    -- else 8 exactly if the slice has fewer than 8 places
    pub plans_short : eqb r.refusal slice_too_short ≡ ltb (length old) plan_room
    plans_short = go (planning q old) refl (planning_ways q old)
      where
        go : (w : Planning) → planning q old ≡ w → Way q old w → eqb r.refusal slice_too_short ≡ ltb (length old) plan_room
        go w f (is_unfit e) = holds_fails (unfit q) e (fit_of_job q job known)
        go w f (no_room found g h) = rw (refusal_as w f, lt-ltb (length old) plan_room h)
        go w f (no_split found g h e) = rw (refusal_as w f, le-ltb (length old) plan_room h)
        go w f (is_planned found split g h e) = rw (refusal_as w f, le-ltb (length old) plan_room h)

    -- else 9 exactly if no split is correct
    pub refuses_if_none : plan_room ≤ length old → ((split : List ℕ) → correct job split ≡ false) → r.refusal ≡ no_correct_split
    refuses_if_none h none = refusal_as _ (planning_none q old job known h (none_plan job (job_fit q job known).few_columns none))

    pub none_if_refused : plan_room ≤ length old → r.refusal ≡ no_correct_split → (split : List ℕ) → correct job split ≡ false
    none_if_refused h nine split = go (planning q old) refl (planning_ways q old)
      where
        go : (w : Planning) → planning q old ≡ w → Way q old w → correct job split ≡ false
        go w f (is_unfit e) = holds_fails (unfit q) e (fit_of_job q job known)
        go w f (no_room found g l) = absurd (omega arith)
        go w f (no_split found g l e) =
            let same : found ≡ job = some-injective found job (sym g ∙ known) in
            not_holds (correct job split) (plan_none job (job_fit q job known).few_columns (sym (ap plan same) ∙ e) split)
        go w f (is_planned found other g l e) = absurd (omega (arith, refusal_as w f, nine))

    -- ---- what is released

    is_released : r.refusal ≡ 0 → (split : List ℕ) × Released old job r new split
    unfolding extracts_after
    is_released z = go (planning q old) refl (planning_ways q old)
      where
        go : (w : Planning) → planning q old ≡ w → Way q old w → (split : List ℕ) × Released old job r new split
        go w f (is_unfit e) = absurd (omega (arith, refusal_as w f, z))
        go w f (no_room found g h) = absurd (omega (arith, refusal_as w f, z))
        go w f (no_split found g h e) = absurd (omega (arith, refusal_as w f, z))
        go w f (is_planned found split g h e) =
            let same : found ≡ job = some-injective found job (sym g ∙ known) in
            let fit = job_fit q job known in
            let comes : plan job ≡ Some split = sym (ap plan same) ∙ e in
            let right : IsPlanned job split = plan_planned job fit.few_columns split comes in (
              split,
              record {
                plan = comes;
                right = right;
                count = ap (λ (d : Planned). d.count) (a.answered ∙ ap planned_of f);
                room = omega (arith, planned_few job split right, fit.few_needs, h);
                extracts = a.extracts ∙ ap (λ (x : Planning). extracts_after x old) f;
              },
            )

    -- the first places hold the planner's split of the job, the places after it stay
    pub released : r.refusal ≡ 0 → IsPlanned job (take r.count new) × (drop r.count new ≡ drop r.count old)
    released z =
        let is = is_released z in
        (released_first old job r new is.0 is.1, released_rest old job r new is.0 is.1)

    -- there is no extract exactly if there is no need
    pub no_needs : r.refusal ≡ 0 → (job.needs ≡ [] → r.count ≡ 0) × (r.count ≡ 0 → job.needs ≡ [])
    no_needs z =
        let split = (is_released z).0 in
        let is : Released old job r new split = (is_released z).1 in (
          λ e. omega (arith, is.count, planned_few job split is.right, ap length e),
          λ e. no_extracts job split is.right.right (sym is.count ∙ e),
        )

-- ---- two jobs

module _ (p q : Numbers) (first second : Job) (of-first : job_of p ≡ Some first) (of-second : job_of q ≡ Some second) where
  -- demand 3: "if the first can be split so can the second, into no more extracts"
  pub less_plans : AsksNoMore first second → (old before : List ℕ) (r s : Planned) (new after : List ℕ) → Plans p old r new → Plans q before s after
      → r.refusal ≡ 0 → plan_room ≤ length before → (s.refusal ≡ 0) × (s.count ≤ r.count)
  less_plans asks old before r s new after a b z room =
      let split = (is_released p old r new a first of-first z).0 in
      let is : Released old first r new split = (is_released p old r new a first of-first z).1 in
      let less = less_planned first second asks (job_fit p first of-first).few_columns split is.plan in
      let comes = b.answered ∙ ap planned_of (planning_planned q before second of-second room less.0 less.1) in
      let count : s.count ≡ length less.0 = ap (λ (d : Planned). d.count) comes in
      (ap (λ (d : Planned). d.refusal) comes, omega (arith, count, is.count, less.2))

  -- jobs over equal columns that the same splits are correct for get the same answer and the same extracts
  pub same_splits_same_answer : second.columns ≡ first.columns → ((split : List ℕ) → correct first split ≡ correct second split)
      → (old : List ℕ) (r s : Planned) (new after : List ℕ) → Plans p old r new → Plans q old s after → (r ≡ s) × (new ≡ after)
  same_splits_same_answer columns same old r s new after a b =
      let plans : plan first ≡ plan second = same_correct_plan first second columns (job_fit p first of-first).few_columns same in
      let comes : planning p old ≡ planning q old = same_plan_planning p q old first second of-first of-second plans in (
        a.answered ∙ ap planned_of comes ∙ sym b.answered,
        a.extracts ∙ ap (λ (x : Planning). extracts_after x old) comes ∙ sym b.extracts,
      )
