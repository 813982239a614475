-- `faults::sections::sections` meets its contract. Assumes nothing.
use Rattle.faults.proofs.Parts.{sectioned}
use Rattle.faults.proofs.sections.sections.Goals as goal

pub returns : goal.returns
returns c = λ sheet form. sectioned form c.next_line-from.ensures.is c.walk-forbids.ensures.is c.walk-needs.ensures.is
