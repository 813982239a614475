-- 01's small table holds of the definitions. Assumes nothing.
use mathlib.Core.Path.{◌≡◌, refl}
use mathlib.Core.List.{map}
use Rattle.rules.specs.Options.{bind}
use Rattle.rules.specs.Lists.{every, any_of, keep, first_where, up_from}
use Rattle.rules.specs.Sets.{members, contains, apart, size}
use Rattle.rules.specs.Needs.{meets}
use Rattle.rules.specs.Marks.{in_front, rows, joined, after, operands_of, only, need_of, needs_of}
use Rattle.rules.specs.Jobs.{breaks, safe, allowed, unlinked, price}
use Rattle.rules.specs.Numbers.{unfit, job_of, absent, columns_unfit, sets_too_many, set_unfit, unclosed, mark_unfit, needs_too_many}
use Rattle.rules.specs.Numbers.{need_unfit, markless, joins_too_few, leaves_other, column_marks_too_many}
use Rattle.rules.specs.Splits.{proper, all_unlinked, met, correct}
use Rattle.rules.specs.Plans.{put_in, rising, cost, rank, not_after, choices, splits, better, best, plan}
use Rattle.rules.specs.Conditions.{meets_chosen, condition}
use Rattle.rules.specs.Diagrams.{alike, place_of, with_node, over, grow, diagram_of, diagram, node_at}
use Rattle.rules.specs.Paths.{paths_from, one_paths_of, one_paths}
use Rattle.rules.specs.SmallTable.{Row, answer_of_job, answer, table}

-- every row of the table: the answer that the definitions compute is the answer that 01 states
pub table_holds : map (λ (r : Row). answer r.asked r.given) table ≡ map (λ (r : Row). r.stated) table
unfolding every any_of keep first_where up_from members contains apart size meets in_front rows joined after operands_of only need_of needs_of breaks safe allowed
    unlinked price columns_unfit sets_too_many set_unfit unclosed markless absent joins_too_few leaves_other mark_unfit column_marks_too_many need_unfit
    needs_too_many unfit job_of proper all_unlinked met correct put_in rising cost rank not_after choices splits better best plan meets_chosen
    condition alike place_of with_node over grow diagram_of diagram node_at paths_from one_paths_of one_paths answer_of_job answer table bind
table_holds = refl
