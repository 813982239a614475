-- Fit numbers stand for a job, unfit ones for none. Assumes nothing.
use mathlib.Core.Path.{◌≡◌, refl, sym, ap, ◌∙◌}
use mathlib.Core.Bool.{Bool, true, false, ◌||◌, true≢false}
use mathlib.Core.List.{List, [], ◌∷◌}
use Rattle.rules.proofs.Options.{Option, None, Some, bind, some-injective, none-ne-some}
use Prim.Native.Nat.{ℕ, suc, ◌≤◌, ◌<◌}
use native.Mathlib.Omega.{arith}
use lib.Dec.{eqb, ltb}
use lib.ListN.{length}
use borrow.Author.Tests.{eqb-false, ltb-false}
use Rattle.rules.specs.Lists.{any_of}
use Rattle.rules.specs.Needs.{Need}
use Rattle.rules.specs.Marks.{rows, need_of, needs_of}
use Rattle.rules.specs.Jobs.{Job}
use Rattle.rules.specs.Numbers.{Numbers, unfit, job_of, absent, columns_unfit, sets_too_many, set_unfit, unclosed, mark_unfit, needs_too_many}
use Rattle.rules.specs.Numbers.{need_unfit, markless, joins_too_few, leaves_other, column_marks_too_many}
use Rattle.rules.proofs.Lists.{or_none, or_neither}

pub unfit_none : (q : Numbers) → unfit q ≡ true → job_of q ≡ None
unfolding job_of
unfit_none q e = rw e

-- the clauses of 01's list, none of which holds of fit numbers
pub record Fit (q : Numbers) : Type 0 where
  pub columns : columns_unfit q.columns ≡ false
  pub few_sets : sets_too_many q.forbidden ≡ false
  pub sets : any_of (set_unfit q.columns) q.forbidden ≡ false
  pub closed : unclosed q.marks ≡ false
  pub needs : any_of need_unfit (rows q.marks) ≡ false
  pub marks : any_of (mark_unfit q.columns) q.marks ≡ false
  pub few_needs : needs_too_many (rows q.marks) ≡ false

pub fit_clauses : (q : Numbers) → unfit q ≡ false → Fit q
unfolding unfit
fit_clauses q e =
    let a = or_neither _ _ e in
    let b = or_neither _ _ a.0 in
    let c = or_neither _ _ b.0 in
    let d = or_neither _ _ c.0 in
    let f = or_neither _ _ d.0 in
    let g = or_neither _ _ f.0 in
    record { columns = g.0; few_sets = g.1; sets = f.1; closed = d.1; needs = c.1; marks = b.1; few_needs = a.1 }

-- numbers of which no clause holds are fit
pub clauses_fit : (q : Numbers) → Fit q → unfit q ≡ false
unfolding unfit
clauses_fit q fit =
    let sets = or_none _ _ (or_none _ _ fit.columns fit.few_sets) fit.sets in
    let needs = or_none _ _ (or_none _ _ sets fit.closed) fit.needs in
    or_none _ _ (or_none _ _ needs fit.marks) fit.few_needs

pub record FitNeed (row : List ℕ) : Type 0 where
  pub marked : markless row ≡ false
  pub joins : joins_too_few row ≡ false
  pub leaves : leaves_other row ≡ false
  pub few_columns : column_marks_too_many row ≡ false

pub need_clauses : (row : List ℕ) → need_unfit row ≡ false → FitNeed row
unfolding need_unfit
need_clauses row e =
    let a = or_neither (markless row || joins_too_few row || leaves_other row) (column_marks_too_many row) e in
    let b = or_neither (markless row || joins_too_few row) (leaves_other row) a.0 in
    let c = or_neither (markless row) (joins_too_few row) b.0 in
    record { marked = c.0; joins = c.1; leaves = b.1; few_columns = a.1 }

-- ---- the job of fit numbers

present : {A : Type 0} (o : Option A) → absent o ≡ false → (a : A) × (o ≡ Some a)
unfolding absent
present None e = absurd (true≢false e)
present (Some a) e = (a, refl)

pub fit_need : (row : List ℕ) → need_unfit row ≡ false → (v : Need) × (need_of row ≡ Some v)
unfolding leaves_other
fit_need row e = present (need_of row) (need_clauses row e).leaves

-- every row stands for a need
pub record Needed (needs : List (List ℕ)) (vs : List Need) : Type 0 where
  pub are : needs_of needs ≡ Some vs
  pub many : length vs ≡ length needs

rows_needs : (needs : List (List ℕ)) → any_of need_unfit needs ≡ false → (vs : List Need) × Needed needs vs
unfolding any_of needs_of bind
rows_needs [] e = ([], record { are = refl; many = refl })
rows_needs (row ∷ needs) e =
    let parts = or_neither (need_unfit row) (any_of need_unfit needs) e in
    let v = fit_need row parts.0 in
    let vs = rows_needs needs parts.1 in
    (v.0 ∷ vs.0, record { are = rw (v.1, vs.1.are); many = ap suc vs.1.many })

-- what a job that numbers stand for is made of, and its bounds
pub record JobOf (q : Numbers) (job : Job) : Type 0 where
  pub same : job_of q ≡ Some job
  pub columns : job.columns ≡ q.columns
  pub forbidden : job.forbidden ≡ q.forbidden
  pub needs : needs_of (rows q.marks) ≡ Some job.needs
  pub as_many_needs : length job.needs ≡ length (rows q.marks)
  pub some_columns : 0 < job.columns
  pub few_columns : job.columns ≤ 16
  pub few_needs : length job.needs ≤ 8

pub fit_job : (q : Numbers) → unfit q ≡ false → (job : Job) × JobOf q job
unfolding job_of columns_unfit needs_too_many
fit_job q e =
    let fit = fit_clauses q e in
    let vs = rows_needs (rows q.marks) fit.needs in
    let n = or_neither (eqb q.columns 0) (ltb 16 q.columns) fit.columns in
    let Some : q.columns ≡ 0 → ⊥ = eqb-false q.columns 0 n.0 in
    let few : q.columns ≤ 16 = ltb-false 16 q.columns n.1 in
    let short : length (rows q.marks) ≤ 8 = ltb-false 8 (length (rows q.marks)) fit.few_needs in (
      record { columns = q.columns; forbidden = q.forbidden; needs = vs.0 },
      record {
        same = rw (e, vs.1.are);
        columns = refl;
        forbidden = refl;
        needs = vs.1.are;
        as_many_needs = vs.1.many;
        some_columns = omega arith;
        few_columns = few;
        few_needs = omega (arith, vs.1.many);
      },
    )

pub fit_of_job : (q : Numbers) (job : Job) → job_of q ≡ Some job → unfit q ≡ false
fit_of_job q job e = go (unfit q) refl
  where
    go : (b : Bool) → unfit q ≡ b → unfit q ≡ false
    go true u = absurd (none-ne-some job (sym (unfit_none q u) ∙ e))
    go false u = u

pub job_fit : (q : Numbers) (job : Job) → job_of q ≡ Some job → JobOf q job
job_fit q job e =
    let f = fit_job q (fit_of_job q job e) in
    rw (some-injective f.0 job (sym f.1.same ∙ e)) at f.1
