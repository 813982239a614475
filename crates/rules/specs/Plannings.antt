-- What the call for the planner's split comes to, and what the lent slice holds then. "Order for numbers: 7, 8, 9."
use Rattle.std.specs.Prelude.{cond, List, ℕ, ltb, length}
use Rattle.rules.specs.Options.{Option-elim}
use Rattle.rules.specs.Lists.{written}
use Rattle.rules.specs.Jobs.{Job}
use Rattle.rules.specs.Numbers.{Numbers, job_of}
use Rattle.rules.specs.Plans.{plan}
use Rattle.rules.specs.Refusals.{numbers_unfit, slice_too_short, no_correct_split}

-- "The planner takes a fit job and a 16-bit slice; 8 exactly if it is shorter than 8."
abbrev pub plan_room : ℕ
plan_room = 8

-- a refusal's number, or a split
pub data Planning : Type 0 where
  refused : ℕ → Planning
  planned : List ℕ → Planning

-- 8 for a slice that is too short; else 9 where no split is correct; else the planner's split
unfoldable pub planning_of : List ℕ → Job → Planning
planning_of old job = cond (ltb (length old) plan_room) (refused slice_too_short) (Option-elim (plan job) (refused no_correct_split) planned)

-- unfit numbers stand for no job, and are refused before all else
unfoldable pub planning : Numbers → List ℕ → Planning
planning q old = Option-elim (job_of q) (refused numbers_unfit) (planning_of old)

-- "It writes its k extracts into the first k places; the rest stays." A refusal writes nothing
unfoldable pub extracts_after : Planning → List ℕ → List ℕ
extracts_after (refused number) old = old
extracts_after (planned split) old = written split old
