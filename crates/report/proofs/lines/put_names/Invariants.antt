-- `report::lines::put_names` meets its contract. The invariant: the names of the columns below this one are put. Assumes nothing.
use Rattle.report.proofs.NamesListed.{Listed}
use Rattle.report.proofs.lines.put_names.Given as goal

abbrev pub invariant-loop-column : goal.invariant-loop-column
invariant-loop-column l = Listed l.names l.set l.initial.page l.comma l.column l.page
