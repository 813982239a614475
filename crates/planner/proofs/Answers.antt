-- What the call for the planner's split gives in each of its ways. Assumes nothing.
use mathlib.Core.Path.{◌≡◌, refl, sym, subst, ◌∙◌}
use mathlib.Core.List.{List}
use Rattle.rules.specs.Options.{Option, None, Some, unwrap_or}
use Rattle.std.specs.Prelude.{IfSome}
use Rattle.std.specs.Option.{ok_or}
use Rattle.job.specs.declared.refusals.Refusal.TheVariants.{NoCorrectSplit}
use Prim.Native.Nat.{ℕ, ◌+◌, ◌*◌, ◌^◌, ◌≤◌, ◌<◌}
use native.Mathlib.Decide.{dec_lt}
use native.Mathlib.Omega.{arith}
use lib.ListN.{length}
use lib.Pow.{pow_pos}
use Rattle.rules.specs.Lists.{written}
use Rattle.rules.specs.Sets.{full}
use Rattle.rules.specs.Jobs.{Job}
use Rattle.rules.specs.Numbers.{Numbers, job_of}
use Rattle.rules.specs.Conditions.{gain}
use Rattle.rules.specs.Plans.{plan}
use Rattle.rules.specs.Refusals.{numbers_unfit, slice_too_short, no_correct_split}
use Rattle.rules.specs.Plannings.{plan_room, refused, planned, planning, extracts_after}
use Rattle.rules.proofs.Numbers.{job_fit}
use Rattle.rules.proofs.Plans.{planned_plan, none_plan}
use Rattle.rules.proofs.Plannings.{planning_unfit, planning_short, planning_none, planning_planned}
use Rattle.job.specs.Records.{numbers_in, loaded, Sound}
use Rattle.job.specs.declared.Job.{Job as Held}
use Rattle.job.proofs.Records.{loaded_unfit, loaded_sound, loaded_numbers}
use Rattle.job.proofs.Known.{Known, is_loaded}
use Rattle.tables.specs.Tables.{blocks, Valued}
use Rattle.tables.proofs.Blocks.{sets_within}
use Rattle.tables.proofs.JobTables.{few_columns_lem}
use Rattle.parts.specs.Parts.{in_table}
use Rattle.searching.specs.Prices.{price_of}
use Rattle.searching.specs.Searching.{Searched}
use Rattle.planner.specs.Promises.{Plans, in_numbers}
use Rattle.planner.proofs.Gains.{gains_columns}
use Rattle.planner.proofs.BestSplits.{total_cost, first_planned, none_correct}

-- ---- from what comes of the call to its promise

module _ (q : Numbers) (old : List ℕ) where
  plans_refused : (number : ℕ) → planning q old ≡ refused number → Plans q old (record { refusal = number; count = 0 }) old
  unfolding extracts_after
  plans_refused number e = record { answered = rw e; extracts = rw e }

  plans_planned : (split new : List ℕ) (count : ℕ) → planning q old ≡ planned split → length split ≡ count → new ≡ written split old
      → Plans q old (record { refusal = 0; count = count }) new
  unfolding extracts_after
  plans_planned split new count e many laid = record { answered = rw (e, many); extracts = rw e laid }

-- ---- from what was loaded to what comes of the call

module _ (q : Numbers) (old : List ℕ) where
  pub plans_not_fit : None ≡ loaded q → Plans q old (record { refusal = 7; count = 0 }) old
  plans_not_fit e = plans_refused q old numbers_unfit (planning_unfit q old (loaded_unfit q None e refl))

  module _ (held : Held) (e : Some held ≡ loaded q) where
    abbrev meant : Known q held
    meant = is_loaded q (Some held) e held refl

    pub plans_no_room : length old < plan_room → Plans q old (record { refusal = 8; count = 0 }) old
    plans_no_room h = plans_refused q old slice_too_short (planning_short q old meant.job meant.known h)

    pub sound : Sound held
    sound = loaded_sound q (Some held) e held refl

    pub few : held.columns ≤ 16
    few = few_columns_lem held sound

    pub few_needs_lem : held.needs ≤ 8
    few_needs_lem = meant.few

    -- the table that was filled says of every set of the columns which needs it meets
    module _ (room : plan_room ≤ length old) (table : List ℕ)
        (told : (j : Job) → job_of (numbers_in held) ≡ Some j → Valued (64 * blocks held.columns) (gain j) table) where
      abbrev job : Job
      job = meant.job

      same_columns : held.columns ≡ job.columns
      same_columns = meant.columns ∙ sym (job_fit q job meant.known).columns

      fewer : job.columns ≤ 16
      fewer = subst (λ (n : ℕ). n ≤ 16) same_columns few

      fewer_needs : length job.needs ≤ 8
      fewer_needs = subst (λ (many : ℕ). many ≤ 8) (sym meant.many) meant.few

      valued : (s : ℕ) → s < 2 ^ job.columns → in_table table s ≡ gain job s
      valued s h =
          let known : job_of (numbers_in held) ≡ Some job = rw (loaded_numbers q (Some held) e held refl) meant.known in
          told job known s (sets_within held.columns s (subst (λ (n : ℕ). s < 2 ^ n) (sym same_columns) h))

      pub empty_gains_nothing : in_table table 0 ≡ 0
      empty_gains_nothing = valued 0 (pow_pos job.columns) ∙ go (dec_lt 0 (gain job 0))
        where
          go : Dec (0 < gain job 0) → gain job 0 ≡ 0
          go (yes h) = absurd (omega (arith, gains_columns job 0 (λ e. omega arith)))
          go (no h) = omega arith

      -- the same search, in the words of the job
      in_words : (count : ℕ) (new : List ℕ)
          → Searched (in_table table) price_of (full held.columns) (full held.needs) held.needs count old new
          → Searched (in_table table) price_of (full job.columns) (full (length job.needs)) (length job.needs) count old new
      in_words count new s =
          subst (λ (n : ℕ). Searched (in_table table) price_of (full n) (full (length job.needs)) (length job.needs) count old new) same_columns
          (subst (λ (m : ℕ). Searched (in_table table) price_of (full held.columns) (full m) m count old new) (sym meant.many) s)

      module _ (count : ℕ) (new : List ℕ)
          (searched : Searched (in_table table) price_of (full held.columns) (full held.needs) held.needs count old new) where
        pub plans_none : held.needs < count → Plans q old (record { refusal = 9; count = 0 }) new
        plans_none h =
            let s = in_words count new searched in
            let more : length job.needs < count = omega (arith, meant.many) in
            let none_there : plan job ≡ None = none_plan job fewer (none_correct job fewer fewer_needs (in_table table) valued (s.none more)) in
            subst (λ (slice : List ℕ). Plans q old (record { refusal = 9; count = 0 }) slice) (sym (s.stays more))
            (plans_refused q old no_correct_split (planning_none q old job meant.known room none_there))

        pub plans_all : count ≤ held.needs → Plans q old (record { refusal = 0; count = count }) new
        plans_all h =
            let found = (in_words count new searched).found (omega (arith, meant.many)) in
            let best =
            first_planned job fewer fewer_needs (in_table table) valued price_of (total_cost job) count found.cost found.split found.least
            found.first in
            plans_planned q old found.split new count
            (planning_planned q old job meant.known room found.split (planned_plan job fewer found.split best)) found.first.as_many
            found.laid

      -- what was found, or the refusal where nothing was
      pub plans_best : (best : Option ℕ) (new : List ℕ) → IfSome best (λ count. count ≤ held.needs)
          → Searched (in_table table) price_of (full held.columns) (full held.needs) held.needs (unwrap_or best (held.needs + 1)) old new
          → Plans q old (in_numbers (ok_or best NoCorrectSplit)) new
      plans_best None new near searched = plans_none (held.needs + 1) new searched (omega arith)
      plans_best (Some count) new near searched = plans_all count new searched near
