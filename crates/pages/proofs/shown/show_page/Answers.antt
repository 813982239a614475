-- `pages::shown::show_page` is safe and ends. Assumes nothing.
use Rattle.report.proofs.Answers.{length_within}
use Rattle.pages.proofs.shown.show_page.Goals as goal

pub split_at-requires : goal.split_at-requires
split_at-requires g c = length_within c.report-outcome.ensures
