-- Two jobs over equal columns that the same splits are correct for have the same planner's split. Assumes nothing.
use mathlib.Core.Path.{◌≡◌, refl, sym, ap₂, ◌∙◌}
use mathlib.Core.List.{List, [], ◌∷◌}
use Rattle.rules.specs.Options.{Option, None, Some}
use Prim.Native.Nat.{ℕ, ◌+◌, ◌≤◌}
use Rattle.rules.specs.Jobs.{Job}
use Rattle.rules.specs.Splits.{correct}
use Rattle.rules.specs.Plans.{cost, rank, plan}
use Rattle.rules.proofs.Lists.{not_holds}
use Rattle.rules.proofs.Jobs.{price_size}
use Rattle.rules.proofs.Plans.{plan_planned, plan_none, planned_plan, none_plan}

module _ (first second : Job) where
  -- extracts cost the same, whatever the job asks
  cost_same : (split : List ℕ) → cost first split ≡ cost second split
  unfolding cost
  cost_same [] = refl
  cost_same (s ∷ split) = ap₂ ◌+◌ (price_size first s ∙ sym (price_size second s)) (cost_same split)

  rank_same : (split : List ℕ) → rank first split ≡ rank second split
  unfolding rank
  rank_same split = rw (cost_same split)

  pub same_correct_plan : second.columns ≡ first.columns → first.columns ≤ 16 → ((split : List ℕ) → correct first split ≡ correct second split)
      → plan first ≡ plan second
  same_correct_plan columns h same = go (plan first) refl
    where
      few : second.columns ≤ 16
      few = rw columns h

      go : (o : Option (List ℕ)) → plan first ≡ o → plan first ≡ plan second
      go None e =
          e ∙ sym (none_plan second few (λ split. sym (same split) ∙ not_holds (correct first split) (plan_none first h e split)))
      go (Some split) e =
          let p = plan_planned first h split e in
          e
          ∙ sym (planned_plan second few split (record {
            right = sym (same split) ∙ p.right;
            written = p.written;
            first = λ other c. rw (← rank_same split, ← rank_same other) (p.first other (same other ∙ c));
          }))
