-- The best list of sets that serve all needs from all columns is the planner's split; where no list of as many sets as needs serves, no split is
-- correct. Assumes nothing.
use mathlib.Core.Path.{◌≡◌, refl, sym, ap, ap₂, ◌∙◌}
use mathlib.Core.Bool.{true, false}
use mathlib.Core.List.{List, [], ◌∷◌, Memᴰ}
use Prim.Native.Nat.{ℕ, ◌+◌, ◌^◌, ◌≤◌, ◌<◌}
use native.Mathlib.Nat.{lt_of_le_of_lt}
use native.Mathlib.Decide.{dec_lt}
use native.Mathlib.Omega.{arith}
use lib.ListN.{length, get_or}
use borrow.Author.Tests.{ltb-true, lt-ltb}
use Rattle.rules.specs.Sets.{has, full}
use Rattle.rules.specs.Needs.{Need, column, meets}
use Rattle.rules.specs.Jobs.{Job, allowed}
use Rattle.rules.specs.Conditions.{gain}
use Rattle.rules.specs.Splits.{proper, met, correct}
use Rattle.rules.specs.Plans.{rising, cost, rank, not_after, Planned}
use Rattle.rules.proofs.Lists.{not_holds, every_in, every_all, any_one, any_in, get_d_in, in_get_d}
use Rattle.rules.proofs.SetBits.{has_below, below_most, full_within, has_full}
use Rattle.rules.proofs.Sets.{has_contains, contains_le}
use Rattle.rules.proofs.Jobs.{price_size}
use Rattle.rules.proofs.Splits.{Parts, proper_means, means_proper, correct_parts, parts_correct}
use Rattle.rules.proofs.Orders.{ahead_smaller, ahead_same, not_after_antisym}
use Rattle.rules.proofs.Rising.{length_rising, cost_rising, correct_rising, rising_first}
use Rattle.rules.proofs.Plans.{plan_planned, plan_exists}
use Rattle.rules.proofs.Useful.{planned_few}
use Rattle.parts.specs.Parts.{Inside}
use Rattle.searching.specs.Serving.{Serves, total, Least, First}
use Rattle.searching.specs.Prices.{price_of}
use Rattle.planner.proofs.Gains.{gained_need, need_gained, gains_allowed, gains_columns}
use Rattle.planner.proofs.ServingSplits.{MetBy, serves_inside, serves_unlinked, serves_met, idle_spared, made_serves}

-- what the sets cost in the search is what they cost in the job
pub total_cost : (job : Job) (split : List ℕ) → total price_of split ≡ cost job split
unfolding total cost price_of
total_cost job [] = refl
total_cost job (s ∷ split) = ap₂ ◌+◌ (sym (price_size job s)) (total_cost job split)

-- ---- all columns, all needs

abbrev pub all_columns : Job → ℕ
all_columns job = full job.columns

abbrev pub all_needs : Job → ℕ
all_needs job = full (length job.needs)

inside_all : (n s : ℕ) → n ≤ 16 → s < 2 ^ n → Inside (full n) s
inside_all n s few b =
    record { small = below_most n s few b; within = has_contains (full n) s (λ i l h. has_full n i ∙ lt-ltb i n (has_below n s i b h)) }

all_inside : (n s : ℕ) → Inside (full n) s → s < 2 ^ n
all_inside n s i = lt_of_le_of_lt (contains_le (full n) s i.small i.within) (full_within n)

module _ (job : Job) (few_columns : job.columns ≤ 16) (few_needs : length job.needs ≤ 8) (value : ℕ → ℕ)
    (valued : (s : ℕ) → s < 2 ^ job.columns → value s ≡ gain job s) where
  needs_small : all_needs job < 2 ^ 16
  needs_small = below_most (length job.needs) (all_needs job) (omega arith) (full_within (length job.needs))

  -- ---- correct splits serve

  pub correct_serves : (split : List ℕ) → correct job split ≡ true → Serves value (all_columns job) (all_needs job) split
  unfolding met
  correct_serves split e =
      made_serves value job split (all_columns job) (all_needs job) needs_small (λ s m. inside_all job.columns s few_columns (below s m))
      p.unlinked (λ i l h. served i (ltb-true i (length job.needs) (sym (has_full (length job.needs) i) ∙ h)))
    where
      p : Parts job split
      p = correct_parts job split e

      below : (s : ℕ) → Memᴰ s split → s < 2 ^ job.columns
      below s m = (proper_means job s (every_in (proper job) p.proper m)).1

      served : (i : ℕ) → i < length job.needs → MetBy value split i
      served i l =
          let v : Need = get_or job.needs i (column 0) in
          let found = any_one (meets v) split (every_in (met split) p.met (get_d_in job.needs i (column 0) l)) in (
            found.0,
            found.1,
            ap (has i) (valued found.0 (below found.0 found.1))
                ∙ need_gained job i found.0 l found.2 (every_in (allowed job) p.allowed found.1),
          )

  -- "each need is true of at least one extract"
  serves_needs : (split : List ℕ) → Serves value (all_columns job) (all_needs job) split
      → (v : Need) → Memᴰ v job.needs → met split v ≡ true
  unfolding met
  serves_needs split e v m =
      let place = in_get_d (column 0) m in
      let k : ℕ = place.0 in
      let l : k < length job.needs = place.1 in
      let asked : has k (all_needs job) ≡ true = has_full (length job.needs) k ∙ lt-ltb k (length job.needs) l in
      let found = serves_met value split (all_columns job) (all_needs job) e k (omega arith) asked in
      let s : ℕ = found.0 in
      let inside = serves_inside value split (all_columns job) (all_needs job) e s found.1 in
      let gained : has k (gain job s) ≡ true = sym (ap (has k) (valued s (all_inside job.columns s inside))) ∙ found.2 in
      any_in (meets v) found.1 (ap (λ (w : Need). meets w s) (sym place.2) ∙ (gained_need job k s l gained).0)

  -- ---- the best list

  module _ (price : ℕ → ℕ) (priced : (split : List ℕ) → total price split ≡ cost job split) (count lowest : ℕ) (split : List ℕ)
      (least : Least value price count (all_columns job) (all_needs job) lowest)
      (f : First value price count (all_columns job) (all_needs job) lowest split) where
    inside : (s : ℕ) → Memᴰ s split → Inside (all_columns job) s
    inside = serves_inside value split (all_columns job) (all_needs job) f.serves

    -- a set that gains nothing could be left out
    gains : (s : ℕ) → Memᴰ s split → gain job s ≡ 0 → ⊥
    gains s m z =
        let idle : value s ≡ 0 = valued s (all_inside job.columns s (inside s m)) ∙ z in
        let spared = idle_spared value split (all_columns job) (all_needs job) needs_small f.serves s m idle in
        omega (arith, least.fewest spared.others spared.serves, spared.fewer, f.as_many)

    first_right : correct job split ≡ true
    first_right =
        parts_correct job split (record {
          proper = every_all (proper job) split (λ s m. means_proper job s (gains_columns job s (gains s m)) (all_inside job.columns s (inside s m)));
          allowed = every_all (allowed job) split (λ s m. gains_allowed job s (gains s m));
          unlinked = serves_unlinked value job split (all_columns job) (all_needs job) f.serves;
          met = every_all (met split) job.needs (serves_needs split f.serves);
        })

    -- it comes first among the correct splits of its length and cost, however these are written
    before_rising : (other : List ℕ) → correct job other ≡ true → length split ≡ length other → cost job split ≡ cost job other
        → not_after split (rising other) ≡ true
    before_rising other c l e =
        f.first (rising other) (correct_serves (rising other) (correct_rising job other ∙ c)) (length_rising other ∙ sym l ∙ f.as_many)
        (priced (rising other) ∙ cost_rising job other ∙ sym e ∙ sym (priced split) ∙ f.as_dear)

    first_written : rising split ≡ split
    first_written = not_after_antisym (rising split) split (rising_first split) (before_rising split first_right refl refl)

    before : (other : List ℕ) → correct job other ≡ true → not_after (rank job split) (rank job other) ≡ true
    unfolding rank
    before other c = go (dec_lt (length split) (length other)) (dec_lt (cost job split) (cost job other))
      where
        serves : Serves value (all_columns job) (all_needs job) other
        serves = correct_serves other c

        go : Dec (length split < length other) → Dec (cost job split < cost job other) → not_after (rank job split) (rank job other) ≡ true
        go (yes l) d = ahead_smaller (length split) (length other) _ _ l
        go (no l) d =
            let many : length split ≡ length other = omega (arith, least.fewest other serves, f.as_many) in
            ahead_same (length split) (length other) _ _ many (dear many d)
          where
            dear : length split ≡ length other → Dec (cost job split < cost job other)
                → not_after (cost job split ∷ rising split) (cost job other ∷ rising other) ≡ true
            dear many (yes h) = ahead_smaller (cost job split) (cost job other) _ _ h
            dear many (no h) =
                let same : cost job split ≡ cost job other =
                omega (arith, least.cheapest other serves (omega (arith, f.as_many)), f.as_dear, priced split, priced other) in
                ahead_same (cost job split) (cost job other) _ _ same (rw first_written (before_rising other c many same))

    pub first_planned : Planned job split
    first_planned = record { right = first_right; written = first_written; first = before }

  -- ---- no correct split

  pub none_correct : ((other : List ℕ) → Serves value (all_columns job) (all_needs job) other → length job.needs < length other)
      → (split : List ℕ) → correct job split ≡ false
  none_correct none split = not_holds (correct job split) λ c.
      let found = plan_exists job few_columns split c in
      let planned = plan_planned job few_columns found.0 found.1 in
      omega (arith, planned_few job found.0 planned, none found.0 (correct_serves found.0 planned.right))
