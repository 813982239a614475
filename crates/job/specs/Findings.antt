-- What the answers of the fitness tests say, in the words of the rules.
use Rattle.std.specs.Prelude.{Bool, cond, ◌||◌, List, ℕ, length}
use Rattle.rules.specs.Options.{Option, None, Some}
use Rattle.rules.specs.Lists.{any_of}
use Rattle.rules.specs.Marks.{rows}
use Rattle.rules.specs.Numbers.{unclosed, need_unfit, mark_unfit, needs_too_many}

-- one of the clauses on marks holds
unfoldable pub marks_unfit : ℕ → List ℕ → Bool
marks_unfit n marks = unclosed marks || any_of need_unfit (rows marks) || any_of (mark_unfit n) marks || needs_too_many (rows marks)

-- how many needs the marks are, where they are fit
unfoldable pub need_count : ℕ → List ℕ → Option ℕ
need_count n marks = cond (marks_unfit n marks) None (Some (length (rows marks)))
