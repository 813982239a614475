-- What the tests of loading say of the numbers, and what loading gives by them. Assumes nothing.
use mathlib.Core.Path.{◌≡◌, refl, sym, ◌∙◌}
use mathlib.Core.Bool.{Bool, true, false, cond, ◌||◌, or_assoc, or-true, true≢false, false≢true}
use Rattle.std.specs.Prelude.{is_some, position}
use Rattle.rules.proofs.Options.{Option, None, Some, none-ne-some, some-ne-none, some-injective}
use Prim.Native.Nat.{ℕ}
use lib.Dec.{ltb}
use lib.ListN.{length}
use borrow.Author.Tests.{ne_eqb}
use Rattle.rules.specs.Lists.{any_of, first_where}
use Rattle.rules.specs.Marks.{rows}
use Rattle.rules.specs.Numbers.{Numbers, unfit, columns_unfit, sets_too_many, set_unfit}
use Rattle.rules.proofs.Lists.{first_none, none_first}
use Rattle.rules.proofs.Library.{position_first}
use Rattle.job.specs.Findings.{marks_unfit, need_count}
use Rattle.job.specs.Records.{job_with, loaded}
use Rattle.job.specs.declared.Job.{Job}

-- what a test for a value tells of an option
has_value : {A : Type 0} (o : Option A) → is_some o ≡ true → (x : A) × (o ≡ Some x)
has_value None e = absurd (false≢true e)
has_value (Some x) e = (x, refl)

has_none : {A : Type 0} (o : Option A) → is_some o ≡ false → o ≡ None
has_none None e = refl
has_none (Some x) e = absurd (true≢false e)

-- what the test of an answer tells of what it equals
pub as_tested : {A : Type 0} {answer is : Option A} {tested b : Bool} → answer ≡ is → tested ≡ is_some answer → tested ≡ b → is_some is ≡ b
as_tested e t b = rw (← e, ← t) b

module _ (q : Numbers) where
  unfit_parts : unfit q ≡ (columns_unfit q.columns || sets_too_many q.forbidden
      || any_of (set_unfit q.columns) q.forbidden || marks_unfit q.columns q.marks)
  unfolding unfit marks_unfit
  unfit_parts = simp or_assoc

  pub no_columns : q.columns ≡ 0 → unfit q ≡ true
  unfolding columns_unfit
  no_columns e = unfit_parts ∙ rw e

  pub many_columns : ltb 16 q.columns ≡ true → unfit q ≡ true
  unfolding columns_unfit
  many_columns e = unfit_parts ∙ rw (e, or-true)

  pub many_sets : ltb 32 (length q.forbidden) ≡ true → unfit q ≡ true
  unfolding sets_too_many
  many_sets e = unfit_parts ∙ rw (e, or-true)

  pub unfit_set : is_some (position (set_unfit q.columns) q.forbidden) ≡ true → unfit q ≡ true
  unfit_set found =
      let at = has_value (position (set_unfit q.columns) q.forbidden) found in
      unfit_parts ∙ rw (go at.0 (sym (position_first (set_unfit q.columns) q.forbidden) ∙ at.1) (any_of (set_unfit q.columns) q.forbidden) refl, or-true)
    where
      go : (i : ℕ) → first_where (set_unfit q.columns) q.forbidden ≡ Some i → (b : Bool) → any_of (set_unfit q.columns) q.forbidden ≡ b
          → any_of (set_unfit q.columns) q.forbidden ≡ true
      go i e true u = u
      go i e false u = absurd (none-ne-some i (sym (none_first (set_unfit q.columns) q.forbidden u) ∙ e))

  pub unfit_marks : need_count q.columns q.marks ≡ None → unfit q ≡ true
  unfolding need_count
  unfit_marks e = unfit_parts ∙ rw (go (marks_unfit q.columns q.marks) refl, or-true)
    where
      go : (b : Bool) → marks_unfit q.columns q.marks ≡ b → marks_unfit q.columns q.marks ≡ true
      go true u = u
      go false u = absurd (some-ne-none (length (rows q.marks)) (sym (rw u) ∙ e))

  fit_marks : (count : ℕ) → need_count q.columns q.marks ≡ Some count
      → (marks_unfit q.columns q.marks ≡ false) × (count ≡ length (rows q.marks))
  unfolding need_count
  fit_marks count e = go (marks_unfit q.columns q.marks) refl e
    where
      go : (b : Bool) → marks_unfit q.columns q.marks ≡ b → cond b None (Some (length (rows q.marks))) ≡ Some count
          → (marks_unfit q.columns q.marks ≡ false) × (count ≡ length (rows q.marks))
      go true u f = absurd (none-ne-some count f)
      go false u f = (u, sym (some-injective (length (rows q.marks)) count f))

  pub counted : (count : ℕ) → need_count q.columns q.marks ≡ Some count → count ≡ length (rows q.marks)
  counted count e = (fit_marks count e).1

  pub all_fit : (count : ℕ) → (q.columns ≡ 0 → ⊥) → ltb 16 q.columns ≡ false → ltb 32 (length q.forbidden) ≡ false
      → is_some (position (set_unfit q.columns) q.forbidden) ≡ false → need_count q.columns q.marks ≡ Some count → unfit q ≡ false
  unfolding columns_unfit sets_too_many
  all_fit count n m s f e =
      let none : first_where (set_unfit q.columns) q.forbidden ≡ None = sym (position_first (set_unfit q.columns) q.forbidden) ∙ has_none (position (set_unfit q.columns) q.forbidden) f in
      unfit_parts ∙ rw (ne_eqb q.columns 0 n, m, s, first_none (set_unfit q.columns) q.forbidden none, (fit_marks count e).0)

  pub gives_unfit : unfit q ≡ true → None ≡ loaded q
  unfolding loaded
  gives_unfit u = rw u

  pub gives_fit : {job : Job} → job ≡ job_with q → unfit q ≡ false → Some job ≡ loaded q
  unfolding loaded
  gives_fit e u = rw (u, e)
