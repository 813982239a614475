-- Demand 3: a job that asks no more than another can be split wherever that one can, into no more extracts, and every split that is right for
-- that one is right for it. Assumes nothing.
use mathlib.Core.Path.{◌≡◌, sym, ◌∙◌}
use mathlib.Core.Bool.{true, false}
use mathlib.Core.List.{List}
use Rattle.rules.specs.Options.{Some}
use Prim.Native.Nat.{ℕ, ◌≤◌}
use lib.ListN.{length}
use Rattle.rules.specs.Sets.{contains}
use Rattle.rules.specs.Jobs.{Job, breaks, unlinked}
use Rattle.rules.specs.Splits.{correct}
use Rattle.rules.specs.Plans.{plan}
use Rattle.rules.specs.Verdicts.{verdict, right}
use Rattle.rules.specs.Demands.{AsksNoMore}
use Rattle.rules.proofs.Lists.{holds_fails, not_holds}
use Rattle.rules.proofs.Sets.{contains_trans}
use Rattle.rules.proofs.Jobs.{breaks_contains, unlinked_apart, unlinked_means}
use Rattle.rules.proofs.Splits.{correct_means, means_correct}
use Rattle.rules.proofs.Plans.{plan_planned, plan_exists, planned_fewest}
use Rattle.rules.proofs.Verdicts.{right_correct, correct_right}

module _ (first second : Job) (asks : AsksNoMore first second) where
  -- a set that doesn't break a forbidden set breaks none that contains it
  less_broken : (s f g : ℕ) → contains g f ≡ true → breaks first s f ≡ false → breaks second s g ≡ false
  less_broken s f g c n = not_holds (breaks second s g) (λ e.
      let held : contains s g ≡ true = sym (breaks_contains second s g) ∙ e in
      holds_fails (contains s f) (contains_trans s g f held c) (sym (breaks_contains first s f) ∙ n))

  less_linked : (s t : ℕ) → unlinked first s t ≡ true → unlinked second s t ≡ true
  less_linked s t e = unlinked_apart second s t ∙ unlinked_means first s t e

  pub less_correct : (split : List ℕ) → correct first split ≡ true → correct second split ≡ true
  less_correct split e =
      let c = correct_means first split e in
      means_correct second split (record {
        proper = λ s m. rw asks.columns (c.proper s m);
        confidential = λ s g m n. let f = asks.forbidden g n in less_broken s f.0 g f.2 (c.confidential s f.0 m f.1);
        visible = λ w n.
            let v = asks.needs w n in
            let s = c.visible v.0 v.1 in
            (s.0, s.1, v.2 s.0 (c.proper s.0 s.1).1 s.2);
        unlinkable = λ i j l h. less_linked _ _ (c.unlinkable i j l h);
      })

  -- "every split judged right for the first is judged right for the second"
  pub less_judged : (split : List ℕ) → verdict first split ≡ right → verdict second split ≡ right
  less_judged split e = correct_right second split (less_correct split (right_correct first split e))

  -- "if the first can be split so can the second, into no more extracts"
  pub less_planned : first.columns ≤ 16 → (split : List ℕ) → plan first ≡ Some split
      → (other : List ℕ) × (plan second ≡ Some other) × (length other ≤ length split)
  less_planned h split e =
      let c = less_correct split (plan_planned first h split e).right in
      let k : second.columns ≤ 16 = rw asks.columns h in
      let b = plan_exists second k split c in
      (b.0, b.1, planned_fewest second b.0 split (plan_planned second k b.0 b.1) c)
