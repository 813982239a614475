-- `faults::names::fault_of` meets its contract. Assumes nothing.
use Rattle.rules.specs.Names.{spot}
use Rattle.faults.proofs.Refusing.{passed_on}
use Rattle.faults.proofs.Tested.{forbid_unknown, forbid_known}
use Rattle.faults.proofs.names.fault_of.Goals as goal

pub returns-in_err-unknown-in-Forbid : goal.returns-in_err-unknown-in-Forbid
returns-in_err-unknown-in-Forbid c =
    let a = c.args in
    λ p q columns before w few b e run.
    rw c.in-Forbid.is
    (passed_on c.from_residual.result _ c.from_residual.ensures.1
    (forbid_unknown a.at columns before (spot a.text.now a.at p) (c.in_err-unknown-in-Forbid.ensures p q columns before w few run)))

pub returns-in_ok-unknown-in-Forbid : goal.returns-in_ok-unknown-in-Forbid
returns-in_ok-unknown-in-Forbid c =
    let a = c.args in
    λ p q columns before w few b e run.
    rw c.in-Forbid.is
    (forbid_known a.at columns before (spot a.text.now a.at p) (c.in_ok-unknown-in-Forbid.ensures p q columns before w few run)
    (c.repeated-in-Forbid.ensures p before b e run))

pub returns-in-Columns : goal.returns-in-Columns
returns-in-Columns c = λ p q columns before w few b e run. rw c.in-Columns.is (c.repeated.ensures p before b e run)

pub returns-in-Need : goal.returns-in-Need
returns-in-Need c = λ p q columns before w few b e run. rw c.in-Need.is (c.unknown.ensures p q columns before w few run)
