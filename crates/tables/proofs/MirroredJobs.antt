-- The job with its columns in the other order: it is as fit as the job, and its conditions are the job's at the mirror of each set. Assumes nothing.
use mathlib.Core.Path.{◌≡◌, refl, sym, ap, ap₂, ◌∙◌}
use mathlib.Core.Bool.{Bool, true, false, not, ◌&&◌, ◌||◌}
use mathlib.Core.List.{List, [], ◌∷◌, map}
use Rattle.rules.specs.Options.{Some}
use Prim.Native.Nat.{ℕ, zero, suc, ◌^◌, ◌≤◌, ◌<◌}
use native.Mathlib.Omega.{arith}
use lib.Dec.{eqb}
use lib.ListN.{length, length-map}
use borrow.Author.Tests.{eqb-false, ne_eqb, ltb-true, lt-ltb, not-false}
use Rattle.std.proofs.lemmas.List.{take-map}
use Rattle.rules.specs.Lists.{every, any_of}
use Rattle.rules.specs.Sets.{contains, within}
use Rattle.rules.specs.Needs.{Need}
use Rattle.rules.specs.Marks.{rows}
use Rattle.rules.specs.Numbers.{Numbers, unfit, job_of, sets_too_many, set_unfit, mark_unfit, need_unfit, needs_too_many}
use Rattle.rules.specs.Jobs.{Job}
use Rattle.rules.specs.Conditions.{meets_chosen, condition}
use Rattle.rules.proofs.Jobs.{safe_contains}
use Rattle.rules.proofs.Lists.{and_parts, or_neither, or_none}
use Rattle.rules.proofs.Numbers.{fit_clauses, fit_job, fit_of_job, job_fit}
use Rattle.job.specs.declared.Job.{Job as Held}
use Rattle.job.specs.Records.{numbers_in, Sound}
use Rattle.tables.specs.Tables.{mirror, Tells}
use Rattle.tables.specs.Mirrored.{mirrored_mark, mirrored_job}
use Rattle.tables.proofs.WordTables.{tells_same}
use Rattle.tables.proofs.Mirrors.{mirror_below, mirror_mirror, mirror_none, mirror_contains}
use Rattle.tables.proofs.MirroredMarks.{mirrored_need, mark_unfit_lem, rows_mirrored, unclosed_mirrored, needs_mirrored, need_unfit_lem}
use Rattle.tables.proofs.MirroredNeeds.{names_below, meets_mirrored, needs_below}

-- ---- forbidden sets

module _ (n : ℕ) where
  set_below : (s : ℕ) → set_unfit n s ≡ false → s < 2 ^ n
  unfolding set_unfit
  set_below s e = ltb-true s (2 ^ n) (not-false (within n s) (or_neither (eqb s 0) (not (within n s)) e).1)

  set_fit : (s : ℕ) → set_unfit n s ≡ false → set_unfit n (mirror n s) ≡ false
  unfolding set_unfit
  set_fit s e =
      let some_column = eqb-false s 0 (or_neither (eqb s 0) (not (within n s)) e).0 in
      or_none (eqb (mirror n s) 0) (not (within n (mirror n s)))
      (ne_eqb (mirror n s) 0 (λ none. some_column (sym (mirror_mirror n s (set_below s e)) ∙ ap (mirror n) none ∙ mirror_none n)))
      (ap not (lt-ltb (mirror n s) (2 ^ n) (mirror_below n s)))

  sets_fit : (sets : List ℕ) → any_of (set_unfit n) sets ≡ false → any_of (set_unfit n) (map (mirror n) sets) ≡ false
  unfolding any_of
  sets_fit [] e = refl
  sets_fit (s ∷ sets) e =
      let parts = or_neither (set_unfit n s) (any_of (set_unfit n) sets) e in
      or_none (set_unfit n (mirror n s)) (any_of (set_unfit n) (map (mirror n) sets)) (set_fit s parts.0) (sets_fit sets parts.1)

  forbidden_mirrored : (place : ℕ) (sets : List ℕ) → n ≤ 16 → any_of (set_unfit n) sets ≡ false
      → any_of (contains place) (map (mirror n) sets) ≡ any_of (contains (mirror n place)) sets
  unfolding any_of
  forbidden_mirrored place [] few e = refl
  forbidden_mirrored place (s ∷ sets) few e =
      let parts = or_neither (set_unfit n s) (any_of (set_unfit n) sets) e in
      ap₂ ◌||◌ (mirror_contains n place s few (set_below s parts.0)) (forbidden_mirrored place sets few parts.1)

  chosen_mirrored : (place : ℕ) (needs : List Need) (k : ℕ) → every (names_below n) needs ≡ true
      → meets_chosen (map (mirrored_need n) needs) k place ≡ meets_chosen needs k (mirror n place)
  unfolding meets_chosen every
  chosen_mirrored place [] k h = refl
  chosen_mirrored place (v ∷ needs) zero h = meets_mirrored n place v (and_parts (names_below n v) (every (names_below n) needs) h).0
  chosen_mirrored place (v ∷ needs) (suc k) h = chosen_mirrored place needs k (and_parts (names_below n v) (every (names_below n) needs) h).1

-- ---- the numbers of a job

any_map : {A : Type 0} (p : A → Bool) (f : A → A) → ((x : A) → p (f x) ≡ p x) → (xs : List A) → any_of p (map f xs) ≡ any_of p xs
unfolding any_of
any_map p f same [] = refl
any_map p f same (x ∷ xs) = ap₂ ◌||◌ (same x) (any_map p f same xs)

abbrev mirrored_numbers : Numbers → Numbers
mirrored_numbers q =
    record {
      columns = q.columns;
      forbidden = map (mirror q.columns) q.forbidden;
      marks = map (mirrored_mark q.columns) q.marks;
    }

module _ (q : Numbers) (e : unfit q ≡ false) where
  columns_few : q.columns ≤ 16
  columns_few = let f = fit_job q e in omega (arith, f.1.columns, f.1.few_columns)

  as_many_rows : length (rows (mirrored_numbers q).marks) ≡ length (rows q.marks)
  as_many_rows =
      ap length (rows_mirrored q.columns columns_few q.marks) ∙ length-map (rows q.marks) (map (mirrored_mark q.columns))

  numbers_fit : unfit (mirrored_numbers q) ≡ false
  unfolding unfit sets_too_many needs_too_many
  numbers_fit =
      let n = q.columns in
      let fit = fit_clauses q e in
      let needs = any_map need_unfit (map (mirrored_mark n)) (need_unfit_lem n columns_few) (rows q.marks) ∙ fit.needs in
      rw (
        fit.columns,
        length-map q.forbidden (mirror n),
        fit.few_sets,
        sets_fit n q.forbidden fit.sets,
        unclosed_mirrored n columns_few q.marks,
        fit.closed,
        any_map (mark_unfit n) (mirrored_mark n) (mark_unfit_lem n columns_few) q.marks,
        fit.marks,
        as_many_rows,
        fit.few_needs,
        rows_mirrored n columns_few q.marks,
        needs,
      )

module _ (q : Numbers) (j : Job) (e : job_of q ≡ Some j) where
  -- what the mirrored numbers stand for
  abbrev mirrored_meaning : Job
  mirrored_meaning =
      record {
        columns = q.columns;
        forbidden = map (mirror q.columns) q.forbidden;
        needs = map (mirrored_need q.columns) j.needs;
      }

  meaning_mirrored : job_of (mirrored_numbers q) ≡ Some mirrored_meaning
  unfolding job_of
  meaning_mirrored =
      let n = q.columns in
      let fit = fit_of_job q j e in
      rw (
        numbers_fit q fit,
        rows_mirrored n (columns_few q fit) q.marks,
        needs_mirrored n (columns_few q fit) (rows q.marks) j.needs (job_fit q j e).needs,
      )

  condition_mirrored : (chosen place : ℕ) → condition mirrored_meaning chosen place ≡ condition j chosen (mirror q.columns place)
  unfolding condition
  condition_mirrored chosen place =
      let n = q.columns in
      let fit = fit_clauses q (fit_of_job q j e) in
      let given = job_fit q j e in
      let spared = forbidden_mirrored n place q.forbidden (columns_few q (fit_of_job q j e)) fit.sets in
      ap₂ ◌&&◌ (chosen_mirrored n place j.needs chosen (needs_below n q.marks j.needs fit.marks given.needs))
      (safe_contains mirrored_meaning place ∙ ap not (spared ∙ ap (any_of (contains (mirror n place))) (sym given.forbidden))
      ∙ sym (safe_contains j (mirror n place)))

-- ---- the job by value

module _ (job : Held) where
  numbers_mirrored : numbers_in (mirrored_job job) ≡ mirrored_numbers (numbers_in job)
  unfolding numbers_in
  numbers_mirrored = rw (take-map (mirror job.columns) job.sets job.forbidden, take-map (mirrored_mark job.columns) job.marked job.marks)

  pub mirrored_sound : Sound job → Sound (mirrored_job job)
  mirrored_sound sound =
      record {
        few_sets = sound.few_sets;
        few_marks = sound.few_marks;
        fit = rw numbers_mirrored (numbers_fit (numbers_in job) sound.fit);
        needs = rw numbers_mirrored (sound.needs ∙ sym (as_many_rows (numbers_in job) sound.fit));
      }

  pub mirrored_told : (j : Job) → job_of (numbers_in job) ≡ Some j → (chosen count : ℕ) (words : List ℕ)
      → ((m : Job) → job_of (numbers_in (mirrored_job job)) ≡ Some m → Tells count (condition m chosen) words)
      → Tells count (λ place. condition j chosen (mirror job.columns place)) words
  unfolding numbers_in
  mirrored_told j e chosen count words told =
      let q = numbers_in job in
      tells_same count (condition (mirrored_meaning q j e) chosen) (λ place. condition j chosen (mirror job.columns place)) words
      (condition_mirrored q j e chosen) (told (mirrored_meaning q j e) (ap job_of numbers_mirrored ∙ meaning_mirrored q j e))
