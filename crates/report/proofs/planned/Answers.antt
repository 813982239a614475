-- `report::planned` meets its contract. Assumes nothing.
use Rattle.job.specs.Records.{numbers_in}
use Rattle.report.proofs.Filling.{sets_within, marks_within}
use Rattle.report.proofs.planned.Goals as goal

pub shared_ref_as_front-numbers : goal.shared_ref_as_front-numbers
shared_ref_as_front-numbers c = sets_within c.requires

pub shared_ref_as_front-numbers-2 : goal.shared_ref_as_front-numbers-2
shared_ref_as_front-numbers-2 c = marks_within c.requires

pub returns : goal.returns
unfolding numbers_in
returns c = c.plan.ensures
