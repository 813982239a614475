-- `report::report` meets its contract. Assumes nothing.
use Rattle.std.proofs.Common.{rules}
use Rattle.report.proofs.Answers.{reports_short, reports_put}
use Rattle.report.proofs.report.Goals as goal

pub returns-then-page-lt-MOST_PAGE_BYTES : goal.returns-then-page-lt-MOST_PAGE_BYTES
returns-then-page-lt-MOST_PAGE_BYTES c = reports_short _ _ c.if-page-lt-MOST_PAGE_BYTES.true

pub returns : goal.returns
returns c =
    let put = c.put_page-outcome.ensures in
    reports_put _ put.reads put.ends c.if-page-lt-MOST_PAGE_BYTES.false (search rules)
