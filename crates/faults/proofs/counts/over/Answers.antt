-- `faults::counts::over` meets its contract. Assumes nothing.
use mathlib.Core.Path.{sym, ◌∙◌}
use Rattle.naming.proofs.Laid.{laid_columns}
use Rattle.faults.proofs.Refusing.{first_there, then_next, passed_on}
use Rattle.faults.proofs.Parts.{forbid_rows, need_rows, over_parts}
use Rattle.faults.proofs.counts.over.Goals as goal

pub returns-in_err-name_over : goal.returns-in_err-name_over
returns-in_err-name_over c =
    λ sheet form at.
    passed_on c.from_residual.result _ c.from_residual.ensures.1
    (first_there (c.in_err-name_over.ensures form.columns_to sheet.columns (laid_columns form)) _ ∙ sym (over_parts sheet))

pub returns-in_err-forbid_over : goal.returns-in_err-forbid_over
returns-in_err-forbid_over c =
    λ sheet form at.
    passed_on c.from_residual-in_err-forbid_over.result _ c.from_residual-in_err-forbid_over.ensures.1
    (then_next (c.in_ok-name_over.ensures form.columns_to sheet.columns (laid_columns form))
    (first_there (c.in_err-forbid_over.ensures form.needs_from sheet.forbids (forbid_rows form at)) _)
    ∙ sym (over_parts sheet))

pub returns : goal.returns
returns c =
    λ sheet form at.
    then_next (c.in_ok-name_over.ensures form.columns_to sheet.columns (laid_columns form))
    (then_next (c.in_ok-forbid_over.ensures form.needs_from sheet.forbids (forbid_rows form at))
    (c.need_over.ensures form.end_from _ (need_rows form at)))
    ∙ sym (over_parts sheet)
