-- The job of numbers that were loaded and are fit, as the rules mean it. Assumes nothing.
use mathlib.Core.Path.{◌≡◌, sym, ap, subst, ◌∙◌}
use Rattle.rules.specs.Options.{Option, Some}
use Prim.Native.Nat.{ℕ, ◌≤◌}
use lib.ListN.{length}
use Rattle.rules.specs.Marks.{rows}
use Rattle.rules.specs.Jobs.{Job}
use Rattle.rules.specs.Numbers.{Numbers, job_of}
use Rattle.rules.proofs.Numbers.{fit_job}
use Rattle.job.specs.Records.{job_with, loaded}
use Rattle.job.specs.Rows.{rows_of, StandFor}
use Rattle.job.specs.declared.Job.{Job as Held}
use Rattle.job.proofs.Records.{loaded_fit}
use Rattle.job.proofs.RowNeeds.{row_need}

pub record Known (q : Numbers) (held : Held) : Type 0 where
  pub job : Job
  pub known : job_of q ≡ Some job
  pub columns : held.columns ≡ q.columns
  pub many : length job.needs ≡ held.needs
  pub few : held.needs ≤ 8
  pub stand : StandFor (rows_of (rows q.marks)) job.needs

pub is_loaded : (q : Numbers) (answer : Option Held) → answer ≡ loaded q → (held : Held) → answer ≡ Some held → Known q held
unfolding job_with
is_loaded q answer e held some =
    let fit = loaded_fit q answer e held some in
    let j = fit_job q fit.0 in
    let many : length j.0.needs ≡ held.needs = j.1.as_many_needs ∙ sym (ap (λ (job : Held). job.needs) fit.1) in
    record {
      job = j.0;
      known = j.1.same;
      columns = ap (λ (job : Held). job.columns) fit.1;
      many = many;
      few = subst (λ (count : ℕ). count ≤ 8) many j.1.few_needs;
      stand = row_need q j.0 j.1.same;
    }
