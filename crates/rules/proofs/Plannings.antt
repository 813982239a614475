-- The ways in which the call for the planner's split ends. Assumes nothing.
use mathlib.Core.Path.{◌≡◌, refl}
use mathlib.Core.Bool.{Bool, true, false}
use mathlib.Core.List.{List}
use Rattle.rules.specs.Options.{Option, None, Some, Option-elim}
use Prim.Native.Nat.{ℕ, ◌≤◌, ◌<◌}
use lib.Dec.{ltb}
use lib.ListN.{length}
use borrow.Author.Tests.{ltb-true, ltb-false, lt-ltb, le-ltb}
use Rattle.rules.specs.Jobs.{Job}
use Rattle.rules.specs.Numbers.{Numbers, unfit, job_of}
use Rattle.rules.specs.Plans.{plan}
use Rattle.rules.specs.Refusals.{numbers_unfit, slice_too_short, no_correct_split}
use Rattle.rules.specs.Plannings.{plan_room, Planning, refused, planned, planning_of, planning}
use Rattle.rules.proofs.Numbers.{unfit_none, fit_job}

module _ (q : Numbers) (old : List ℕ) where
  -- 7; 8 for fit numbers; 9 for those of a job that has no correct split; or the planner's split of the job
  pub data Way : Planning → Type 0 where
    is_unfit : unfit q ≡ true → Way (refused numbers_unfit)
    no_room : (job : Job) → job_of q ≡ Some job → length old < plan_room → Way (refused slice_too_short)
    no_split : (job : Job) → job_of q ≡ Some job → plan_room ≤ length old → plan job ≡ None → Way (refused no_correct_split)
    is_planned : (job : Job) (split : List ℕ) → job_of q ≡ Some job → plan_room ≤ length old → plan job ≡ Some split → Way (planned split)

  pub planning_unfit : unfit q ≡ true → planning q old ≡ refused numbers_unfit
  unfolding planning Option-elim
  planning_unfit e = rw (unfit_none q e)

  module _ (job : Job) (known : job_of q ≡ Some job) where
    pub planning_short : length old < plan_room → planning q old ≡ refused slice_too_short
    unfolding planning planning_of Option-elim
    planning_short h = rw (known, lt-ltb (length old) plan_room h)

    pub planning_none : plan_room ≤ length old → plan job ≡ None → planning q old ≡ refused no_correct_split
    unfolding planning planning_of Option-elim
    planning_none h e = rw (known, le-ltb (length old) plan_room h, e)

    pub planning_planned : plan_room ≤ length old → (split : List ℕ) → plan job ≡ Some split → planning q old ≡ planned split
    unfolding planning planning_of Option-elim
    planning_planned h split e = rw (known, le-ltb (length old) plan_room h, e)

  pub planning_ways : Way (planning q old)
  planning_ways = go (unfit q) refl
    where
      split : (job : Job) → job_of q ≡ Some job → plan_room ≤ length old → (o : Option (List ℕ)) → plan job ≡ o → Way (planning q old)
      split job known h None e = rw (planning_none job known h e) (no_split job known h e)
      split job known h (Some found) e = rw (planning_planned job known h found e) (is_planned job found known h e)

      room : (job : Job) → job_of q ≡ Some job → (b : Bool) → ltb (length old) plan_room ≡ b → Way (planning q old)
      room job known true e =
          let h : length old < plan_room = ltb-true (length old) plan_room e in
          rw (planning_short job known h) (no_room job known h)
      room job known false e = split job known (ltb-false (length old) plan_room e) (plan job) refl

      go : (b : Bool) → unfit q ≡ b → Way (planning q old)
      go true e = rw (planning_unfit e) (is_unfit e)
      go false e = let j = fit_job q e in room j.0 j.1.same (ltb (length old) plan_room) refl

-- what a call comes to depends on the job only by its planner's split
pub same_plan_planning : (p q : Numbers) (old : List ℕ) (first second : Job) → job_of p ≡ Some first → job_of q ≡ Some second → plan first ≡ plan second
    → planning p old ≡ planning q old
unfolding planning planning_of Option-elim
same_plan_planning p q old first second known found same = rw (known, found, same)
