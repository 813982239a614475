-- `report::lines::put_refusal` meets its contract. Assumes nothing.
use Rattle.rules.specs.Words.{keyed_line}
use Rattle.rules.specs.Pages.{page}
use Rattle.writing.proofs.Adding.{puts_both}
use Rattle.report.proofs.lines.put_refusal.Goals as goal

pub returns : goal.returns
unfolding keyed_line page
returns c = puts_both c.put.ensures (puts_both c.put_count.ensures c.put_count-2.ensures)
