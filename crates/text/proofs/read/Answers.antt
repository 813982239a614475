-- `text::read` meets its contract. Assumes nothing.
use mathlib.Core.Path.{sym}
use native.Mathlib.Omega.{arith}
use Rattle.std.proofs.lemmas.Result.{err_from_is_err_and}
use Rattle.text.proofs.Answers.{too_long_takes, stops_takes, fault_takes, right_takes}
use Rattle.text.proofs.read.Goals as goal

pub returns-then-text-gt-MOST_BYTES : goal.returns-then-text-gt-MOST_BYTES
returns-then-text-gt-MOST_BYTES c = too_long_takes c.if-text-gt-MOST_BYTES.true

pub returns-in_err-of_form : goal.returns-in_err-of_form
returns-in_err-of_form c =
    let fault = err_from_is_err_and c.from_residual.result c.from_residual.ensures.1 in
    let stops = c.in_err-of_form.ensures in
    rw (fault.1, fault.2, stops.0) (stops_takes (omega (arith, c.if-text-gt-MOST_BYTES.false)) stops.1)

pub returns-in-Err : goal.returns-in-Err
returns-in-Err c =
    let whole = c.in_ok-of_form.ensures in
    fault_takes whole.0 c.in-Err.fault (omega (arith, c.if-text-gt-MOST_BYTES.false)) whole.1 (c.in-Err.ensures whole.0 whole.1)

pub returns : goal.returns
returns c =
    let whole = c.in_ok-of_form.ensures in
    right_takes whole.0 c.taken.result (omega (arith, c.if-text-gt-MOST_BYTES.false)) whole.1
    (c.taken.ensures whole.0 whole.1 (sym (c.in_default.ensures whole.0 whole.1)))
