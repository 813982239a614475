-- `faults::names::names_fault` meets its contract. Assumes nothing.
use mathlib.Core.Path.{sym, ◌∙◌}
use Rattle.naming.proofs.Laid.{laid_columns}
use Rattle.faults.proofs.Refusing.{first_there, then_next, passed_on}
use Rattle.faults.proofs.Parts.{forbid_rows, need_rows, names_parts}
use Rattle.faults.proofs.names.names_fault.Goals as goal

pub returns-in_err-line_fault : goal.returns-in_err-line_fault
returns-in_err-line_fault c =
    λ sheet form at few.
    passed_on c.from_residual.result _ c.from_residual.ensures.1
    (first_there (c.in_err-line_fault.ensures _ _ sheet.columns sheet.columns (laid_columns form) few (laid_columns form)) _ ∙ sym (names_parts sheet))

pub returns-in_err-lines_fault : goal.returns-in_err-lines_fault
returns-in_err-lines_fault c =
    λ sheet form at few.
    passed_on c.from_residual-in_err-lines_fault.result _ c.from_residual-in_err-lines_fault.ensures.1
    (then_next (c.in_ok-line_fault.ensures _ _ sheet.columns sheet.columns (laid_columns form) few (laid_columns form))
    (first_there (c.in_err-lines_fault.ensures form.columns_to form.needs_from sheet.columns _ (laid_columns form) few (forbid_rows form at)) _)
    ∙ sym (names_parts sheet))

pub returns : goal.returns
returns c =
    λ sheet form at few.
    then_next (c.in_ok-line_fault.ensures _ _ sheet.columns sheet.columns (laid_columns form) few (laid_columns form))
    (then_next (c.in_ok-lines_fault.ensures form.columns_to form.needs_from sheet.columns _ (laid_columns form) few (forbid_rows form at))
    (c.lines_fault-2.ensures form.columns_to form.end_from sheet.columns _ (laid_columns form) few (need_rows form at)))
    ∙ sym (names_parts sheet)
