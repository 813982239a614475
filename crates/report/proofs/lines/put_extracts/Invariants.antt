-- `report::lines::put_extracts` meets its contract. The invariant: the lines of the first extracts are put. Assumes nothing.
use lib.ListN.{take}
use Rattle.rules.specs.Pages.{extract_lines}
use Rattle.report.specs.Naming.{PutsNamed}
use Rattle.report.proofs.lines.put_extracts.Given as goal

abbrev pub invariant-loop-set : goal.invariant-loop-set
invariant-loop-set l = PutsNamed l.names (λ columns. extract_lines columns (take l.set-index l.extracts)) l.initial.page l.page
