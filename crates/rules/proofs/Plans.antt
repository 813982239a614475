-- The planner's split: there is one exactly if a correct split exists, it is the only one, and it has the fewest extracts. Assumes nothing.
use mathlib.Core.Path.{◌≡◌, refl, sym, ap, ◌∙◌}
use mathlib.Core.Bool.{Bool, true, false, cond}
use mathlib.Core.List.{List, [], ◌∷◌, Memᴰ, tail-eq_of_cons-eq}
use Rattle.rules.specs.Options.{Option, None, Some}
use Prim.Native.Nat.{ℕ, ◌≤◌}
use native.Mathlib.Omega.{arith}
use lib.ListN.{length}
use Rattle.rules.specs.Jobs.{Job}
use Rattle.rules.specs.Splits.{correct}
use Rattle.rules.specs.Plans.{rising, rank, not_after, Planned, splits, better, best, plan}
use Rattle.rules.proofs.Lists.{holds_fails}
use Rattle.rules.proofs.Orders.{Ahead, smaller, same, ahead, not_after_refl, not_after_antisym, not_after_trans, not_after_other}
use Rattle.rules.proofs.Rising.{length_rising, cost_rising}
use Rattle.rules.proofs.Choices.{split_correct, correct_split}

module _ (job : Job) where
  -- ---- the one with the lowest rank

  -- a split that no other of a list comes before
  record Lowest (others : List (List ℕ)) (split : List ℕ) : Type 0 where
    within : Memᴰ split others
    first : (other : List ℕ) → Memᴰ other others → not_after (rank job split) (rank job other) ≡ true

  abbrev IsBest : List (List ℕ) → Option (List ℕ) → Type 0
  IsBest others None = (other : List ℕ) → Memᴰ other others → ⊥
  IsBest others (Some b) = Lowest others b

  better_lowest : (split : List ℕ) (others : List (List ℕ)) (o : Option (List ℕ)) → IsBest others o → Lowest (split ∷ others) (better job split o)
  unfolding better
  better_lowest split others None empty = record { within = mathlib.Core.List.Memᴰ.head refl; first = before }
    where
      before : (other : List ℕ) → Memᴰ other (split ∷ others) → not_after (rank job split) (rank job other) ≡ true
      before other (mathlib.Core.List.Memᴰ.head e) = rw e (not_after_refl (rank job split))
      before other (mathlib.Core.List.Memᴰ.tail m) = absurd (empty other m)
  better_lowest split others (Some b) l = go (not_after (rank job split) (rank job b)) refl
    where
      go : (c : Bool) → not_after (rank job split) (rank job b) ≡ c → Lowest (split ∷ others) (cond c split b)
      go true e = record { within = mathlib.Core.List.Memᴰ.head refl; first = before }
        where
          before : (other : List ℕ) → Memᴰ other (split ∷ others) → not_after (rank job split) (rank job other) ≡ true
          before other (mathlib.Core.List.Memᴰ.head q) = rw q (not_after_refl (rank job split))
          before other (mathlib.Core.List.Memᴰ.tail m) = not_after_trans (rank job split) (rank job b) (rank job other) e (l.first other m)
      go false e = record { within = mathlib.Core.List.Memᴰ.tail l.within; first = before }
        where
          before : (other : List ℕ) → Memᴰ other (split ∷ others) → not_after (rank job b) (rank job other) ≡ true
          before other (mathlib.Core.List.Memᴰ.head q) = rw q (not_after_other (rank job split) (rank job b) e)
          before other (mathlib.Core.List.Memᴰ.tail m) = l.first other m

  best_is : (others : List (List ℕ)) → IsBest others (best job others)
  unfolding best
  best_is [] = λ other m. mathlib.Core.List.Memᴰ.not-nil m
  best_is (split ∷ others) = better_lowest split others (best job others) (best_is others)

  -- ---- planned is what the trial of all gives, and nothing else

  rank_rising : (split : List ℕ) → rising (rising split) ≡ rising split → rank job (rising split) ≡ rank job split
  unfolding rank
  rank_rising split e = rw (length_rising split, cost_rising job split, e)

  pub plan_planned : job.columns ≤ 16 → (split : List ℕ) → plan job ≡ Some split → Planned job split
  unfolding plan
  plan_planned h split e =
      let l : Lowest (splits job) split = rw e at (best_is (splits job)) in
      let c = split_correct job split l.within in
      record { right = c.0; written = c.1; first = λ other k. before other k l }
    where
      before : (other : List ℕ) → correct job other ≡ true → Lowest (splits job) split → not_after (rank job split) (rank job other) ≡ true
      before other k l =
          let m : Memᴰ (rising other) (splits job) = correct_split job other h k in
          rw (rank_rising other (split_correct job (rising other) m).1) at (l.first (rising other) m)

  pub plan_none : job.columns ≤ 16 → plan job ≡ None → (split : List ℕ) → correct job split ≡ true → ⊥
  unfolding plan
  plan_none h e split c = let f : IsBest (splits job) None = rw e at (best_is (splits job)) in f (rising split) (correct_split job split h c)

  pub planned_unique : (split other : List ℕ) → Planned job split → Planned job other → split ≡ other
  unfolding rank
  planned_unique split other p q =
      let e : rank job split ≡ rank job other =
      not_after_antisym (rank job split) (rank job other) (p.first other q.right) (q.first split p.right) in
      sym p.written ∙ tail-eq_of_cons-eq (tail-eq_of_cons-eq e) ∙ q.written

  pub plan_exists : job.columns ≤ 16 → (split : List ℕ) → correct job split ≡ true → (best : List ℕ) × (plan job ≡ Some best)
  plan_exists h split c = go (plan job) refl
    where
      go : (o : Option (List ℕ)) → plan job ≡ o → (best : List ℕ) × (plan job ≡ Some best)
      go None e = absurd (plan_none h e split c)
      go (Some best) e = (best, e)

  pub planned_plan : job.columns ≤ 16 → (split : List ℕ) → Planned job split → plan job ≡ Some split
  planned_plan h split p =
      let b = plan_exists h split p.right in
      b.1 ∙ ap {B = Option (List ℕ)} Some (planned_unique b.0 split (plan_planned h b.0 b.1) p)

  pub none_plan : job.columns ≤ 16 → ((split : List ℕ) → correct job split ≡ false) → plan job ≡ None
  none_plan h f = go (plan job) refl
    where
      go : (o : Option (List ℕ)) → plan job ≡ o → plan job ≡ None
      go None e = e
      go (Some best) e = holds_fails (correct job best) (plan_planned h best e).right (f best)

  -- ---- the fewest extracts

  pub planned_fewest : (split other : List ℕ) → Planned job split → correct job other ≡ true → length split ≤ length other
  unfolding rank
  planned_fewest split other p c = go (ahead (length split) (length other) _ _ (p.first other c))
    where
      go : {rest : Bool} → Ahead (length split) (length other) rest → length split ≤ length other
      go (smaller l) = omega arith
      go (same e r) = omega arith
