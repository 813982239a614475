-- `split::answer` is safe and ends. Assumes nothing.
use lib.Seq.{length-take-le}
use Rattle.report.proofs.Answers.{length_within}
use Rattle.std.proofs.Common.{sym}
use Rattle.split.proofs.answer.Goals as goal

pub slice_bounds-page-end : goal.slice_bounds-page-end
slice_bounds-page-end g c = length_within c.report-outcome.ensures

pub slice_bounds-write_all-end : goal.slice_bounds-write_all-end
slice_bounds-write_all-end g c = sym (length-take-le _ _ (length_within c.report-outcome.ensures))
