-- What a job by value has, and what its tables tell: the conditions at every set, and the needs that every set meets. Assumes nothing.
use mathlib.Core.Path.{◌≡◌, sym, ap, ◌∙◌}
use mathlib.Core.Bool.{Bool, true, not, ◌&&◌}
use mathlib.Core.List.{List, []}
use Rattle.rules.specs.Options.{Some}
use Prim.Native.Nat.{ℕ, ◌≤◌, ◌<◌, min}
use native.Mathlib.Omega.{arith}
use lib.ListN.{length, get_or, take}
use Rattle.rules.specs.Lists.{any_of}
use Rattle.rules.specs.Sets.{contains}
use Rattle.rules.specs.Needs.{Need, column, meets}
use Rattle.rules.specs.Marks.{rows, need_of, before_end}
use Rattle.rules.specs.Numbers.{job_of}
use Rattle.rules.specs.Jobs.{Job}
use Rattle.rules.specs.Conditions.{meets_chosen, condition}
use Rattle.rules.proofs.Numbers.{fit_job, job_fit}
use Rattle.rules.proofs.Jobs.{safe_contains}
use Rattle.rules.proofs.Conditions.{chosen_need, past_needs}
use Rattle.job.specs.declared.Job.{Job as Held}
use Rattle.job.specs.Records.{numbers_in, Sound}
use Rattle.job.specs.Rows.{rows_of}
use Rattle.job.proofs.RowNeeds.{row_need}
use Rattle.tables.specs.Tables.{blocks, Tells}
use Rattle.tables.proofs.WordTables.{tells_same}

module _ (job : Held) (sound : Sound job) where
  pub few_columns_lem : job.columns ≤ 16
  unfolding numbers_in
  few_columns_lem = let f = fit_job (numbers_in job) sound.fit in omega (arith, f.1.columns, f.1.few_columns)

  pub few_needs_lem : job.needs ≤ 8
  few_needs_lem =
      let f = fit_job (numbers_in job) sound.fit in
      omega (arith, f.1.as_many_needs, sound.needs, f.1.few_needs)

  pub job_blocks : blocks (min job.columns 16) ≡ blocks job.columns
  job_blocks = let same : min job.columns 16 ≡ job.columns = omega (arith, few_columns_lem) in rw same

  module _ (j : Job) (e : job_of (numbers_in job) ≡ Some j) where
    pub all_needs_lem : length j.needs ≡ job.needs
    all_needs_lem = (job_fit (numbers_in job) j e).as_many_needs ∙ sym sound.needs

    pub need_told : (chosen count : ℕ) (words : List ℕ) → chosen < job.needs
        → ((v : Need) → need_of (before_end (get_or (rows_of (rows (take job.marked job.marks))) chosen [])) ≡ Some v → Tells count (meets v) words)
        → Tells count (meets_chosen j.needs chosen) words
    unfolding numbers_in
    need_told chosen count words h told =
        let within : chosen < length j.needs = omega (arith, all_needs_lem) in
        let v = get_or j.needs chosen (column 0) in
        tells_same count (meets v) (meets_chosen j.needs chosen) words (λ s. sym (chosen_need j.needs chosen s within))
        (told v (row_need (numbers_in job) j e chosen within))

    pub none_told : (chosen count : ℕ) (words : List ℕ) → job.needs ≤ chosen → Tells count (λ s. true) words
        → Tells count (meets_chosen j.needs chosen) words
    none_told chosen count words h told =
        tells_same count (λ s. true) (meets_chosen j.needs chosen) words (λ s. sym (past_needs j.needs chosen s (omega (arith, all_needs_lem)))) told

    pub condition_told : (chosen count : ℕ) (words : List ℕ)
        → Tells count (λ s. meets_chosen j.needs chosen s && not (any_of (contains s) (take job.sets job.forbidden))) words
        → Tells count (condition j chosen) words
    unfolding numbers_in condition
    condition_told chosen count words told =
        let sets = (job_fit (numbers_in job) j e).forbidden in
        tells_same count _ (condition j chosen) words
        (λ s. ap (λ (b : Bool). meets_chosen j.needs chosen s && b) (ap (λ (l : List ℕ). not (any_of (contains s) l)) (sym sets) ∙ sym (safe_contains j s)))
        told
