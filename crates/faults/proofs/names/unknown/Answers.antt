-- `faults::names::unknown` meets its contract. Assumes nothing.
use Rattle.rules.specs.Names.{spot}
use Rattle.faults.proofs.Tested.{not_known, known}
use Rattle.faults.proofs.names.unknown.Goals as goal

pub returns-in-Some : goal.returns-in-Some
returns-in-Some c =
    let a = c.args in
    λ p q columns before w few run. known a.at columns before (spot a.text.now a.at p) (c.in-Some.ensures.is p q columns w few run)

pub returns-in-None : goal.returns-in-None
returns-in-None c =
    let a = c.args in
    λ p q columns before w few run. not_known a.at columns before (spot a.text.now a.at p) (c.in-None.ensures.is p q columns w few run)
