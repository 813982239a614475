-- `report::lines::put_extracts` meets its contract. Assumes nothing.
use Rattle.rules.specs.Pages.{extract_lines}
use Rattle.report.proofs.NamesListed.{named_nothing}
use Rattle.report.proofs.Printing.{extracts_next}
use Rattle.report.proofs.lines.put_extracts.Goals as goal

pub loop-set-init : goal.loop-set-init
unfolding extract_lines
loop-set-init c = named_nothing

pub loop-set-preserved : goal.loop-set-preserved
loop-set-preserved c = extracts_next _ _ c.loop-set-test.true c.loop-set.invariant c.put_extract.ensures
