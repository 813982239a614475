-- `faults::first_fault` meets its contract. Assumes nothing.
use mathlib.Core.Path.{sym}
use Rattle.rules.specs.Sheets.{sheet_fault}
use Rattle.faults.proofs.Refusing.{first_there, then_next, passed_on}
use Rattle.faults.proofs.Parts.{few_columns_lem}
use Rattle.faults.proofs.first_fault.Goals as goal

pub returns-in_err-over : goal.returns-in_err-over
unfolding sheet_fault
returns-in_err-over c =
    λ sheet form. passed_on c.from_residual.result _ c.from_residual.ensures.1 (first_there (c.in_err-over.ensures sheet form (c.sections-places.ensures sheet form)) _)

pub returns-in_err-names_fault : goal.returns-in_err-names_fault
unfolding sheet_fault
returns-in_err-names_fault c =
    λ sheet form.
    let at = c.sections-places.ensures sheet form in
    let over = c.in_ok-over.ensures sheet form at in
    passed_on c.from_residual-in_err-names_fault.result _ c.from_residual-in_err-names_fault.ensures.1
    (then_next over (first_there (c.in_err-names_fault.ensures sheet form at (few_columns_lem sheet (sym over))) _))

pub returns : goal.returns
unfolding sheet_fault
returns c =
    λ sheet form.
    let at = c.sections-places.ensures sheet form in
    let over = c.in_ok-over.ensures sheet form at in
    then_next over (then_next (c.in_ok-names_fault.ensures sheet form at (few_columns_lem sheet (sym over))) (c.end_fault.ensures sheet form at))
