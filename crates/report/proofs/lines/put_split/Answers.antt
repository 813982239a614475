-- `report::lines::put_split` meets its contract. Assumes nothing.
use Rattle.rules.specs.Words.{keyed_line}
use Rattle.rules.specs.Pages.{page}
use Rattle.report.proofs.NamesListed.{named_put, named_both}
use Rattle.report.proofs.lines.put_split.Goals as goal

pub returns : goal.returns
unfolding keyed_line page
returns c = named_both (named_put c.put.ensures) (named_both (named_put c.put_count.ensures) c.put_extracts.ensures)
