-- `report::lines::put_extract` meets its contract. Assumes nothing.
use Rattle.rules.specs.Words.{keyed_line}
use Rattle.report.proofs.NamesListed.{named_put, named_both}
use Rattle.report.proofs.lines.put_extract.Goals as goal

pub returns : goal.returns
unfolding keyed_line
returns c = named_both (named_put c.put.ensures) (named_both c.put_names.ensures (named_put c.put_byte.ensures))
