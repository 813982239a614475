-- A job that loading gives holds the numbers that were loaded, and is sound. Assumes nothing.
use mathlib.Core.Path.{◌≡◌, refl, sym, ap, subst, ◌∙◌}
use mathlib.Core.Bool.{Bool, true, false}
use Rattle.rules.proofs.Options.{Option, None, Some, some-injective, none-ne-some, some-ne-none}
use mathlib.Core.List.{List}
use Prim.Native.Nat.{ℕ, ◌≤◌}
use lib.ListN.{length, take, replicate, length-replicate}
use borrow.Author.Tests.{ltb-false}
use Rattle.rules.specs.Lists.{written}
use Rattle.rules.specs.Numbers.{Numbers, unfit, sets_too_many}
use Rattle.rules.proofs.Written.{take_written}
use Rattle.rules.proofs.Numbers.{fit_clauses}
use Rattle.rules.proofs.Marks.{marks_few}
use Rattle.job.specs.Records.{numbers_in, job_with, loaded, Sound}
use Rattle.job.specs.declared.Job.{Job}

-- numbers written over places that hold 0
held : (numbers : List ℕ) (places : ℕ) → length numbers ≤ places → take (length numbers) (written numbers (replicate places 0)) ≡ numbers
held numbers places h = take_written numbers (replicate places 0) (rw length-replicate h)

pub few_sets_lem : (q : Numbers) → unfit q ≡ false → length q.forbidden ≤ 32
unfolding sets_too_many
few_sets_lem q e = ltb-false 32 (length q.forbidden) (fit_clauses q e).few_sets

-- a job with fit numbers holds them
pub fit_numbers : (q : Numbers) → unfit q ≡ false → numbers_in (job_with q) ≡ q
unfolding numbers_in job_with
fit_numbers q e = rw (held q.forbidden 32 (few_sets_lem q e), held q.marks 512 (marks_few q e))

fit_sound : (q : Numbers) → unfit q ≡ false → Sound (job_with q)
unfolding job_with
fit_sound q e =
    record {
      few_sets = few_sets_lem q e;
      few_marks = marks_few q e;
      fit = rw (fit_numbers q e) e;
      needs = rw (fit_numbers q e);
    }

-- ---- what a caller of loading has

module _ (q : Numbers) (answer : Option Job) (e : answer ≡ loaded q) where
  pub loaded_unfit : answer ≡ None → unfit q ≡ true
  unfolding loaded
  loaded_unfit none = go (unfit q) refl
    where
      go : (b : Bool) → unfit q ≡ b → unfit q ≡ true
      go true u = u
      go false u = absurd (none-ne-some (job_with q) (sym none ∙ e ∙ rw u))

  module _ (job : Job) (some : answer ≡ Some job) where
    pub loaded_fit : (unfit q ≡ false) × (job ≡ job_with q)
    unfolding loaded
    loaded_fit = go (unfit q) refl
      where
        go : (b : Bool) → unfit q ≡ b → (unfit q ≡ false) × (job ≡ job_with q)
        go true u = absurd (some-ne-none job (sym some ∙ e ∙ rw u))
        go false u = (u, some-injective job (job_with q) (sym some ∙ e ∙ rw u))

    pub loaded_sound : Sound job
    loaded_sound = subst Sound (sym loaded_fit.1) (fit_sound q loaded_fit.0)

    pub loaded_numbers : numbers_in job ≡ q
    loaded_numbers = ap numbers_in loaded_fit.1 ∙ fit_numbers q loaded_fit.0
