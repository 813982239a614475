-- `report::lines::put_name` meets its contract. The invariant: the name's first bytes are put. Assumes nothing.
use Rattle.report.proofs.NamesListed.{Spelt}
use Rattle.report.proofs.lines.put_name.Given as goal

abbrev pub invariant-loop-i : goal.invariant-loop-i
invariant-loop-i l = Spelt l.names l.column l.i l.initial.page l.page
