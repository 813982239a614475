-- `job::load` meets its contract. Assumes nothing.
use Rattle.std.proofs.Common.{length, sym, ◌∙◌}
use borrow.Author.Tests.{lt-ltb, le-ltb}
use Rattle.job.specs.Given.{given}
use Rattle.job.proofs.Loading.{no_columns, many_columns, many_sets, unfit_set, unfit_marks, counted, all_fit, gives_unfit, gives_fit, as_tested}
use Rattle.job.proofs.load.Goals.{then-columns-eq0-via-then-columns-eq0, then-columns-eq0-via-else-columns-eq0+then-columns, then-columns-eq0-via-else-columns-eq0+else-columns+then-forbidden-gt-MOST_FORBIDDEN}
use Rattle.job.proofs.load.Goals as goal

pub returns-then-columns-eq0 : goal.returns-then-columns-eq0
returns-then-columns-eq0 c =
    let q = given c.args.numbers in
    gives_unfit q
    (elim c.then-columns-eq0.branch [
      | then-columns-eq0-via-then-columns-eq0 w ↦ no_columns q w.if-columns-eq0.true
      | then-columns-eq0-via-else-columns-eq0+then-columns w ↦ many_columns q (lt-ltb 16 q.columns w.if-columns.true)
      | then-columns-eq0-via-else-columns-eq0+else-columns+then-forbidden-gt-MOST_FORBIDDEN w ↦
          many_sets q (lt-ltb 32 (length q.forbidden) w.if-forbidden-gt-MOST_FORBIDDEN.true)
    ])

pub returns-then-is_some : goal.returns-then-is_some
returns-then-is_some c =
    let q = given c.args.numbers in
    gives_unfit q (unfit_set q (as_tested c.first_unfit_set.ensures c.is_some.ensures c.if-is_some.true))

pub returns-in_err-needs : goal.returns-in_err-needs
returns-in_err-needs c =
    let q = given c.args.numbers in
    c.from_residual.ensures ∙ gives_unfit q (unfit_marks q (sym c.needs_fit.ensures ∙ c.in_err-needs.was))

pub fit-requires : goal.fit-requires
fit-requires c =
    let q = given c.args.numbers in
    counted q c.in_ok-needs.needs (sym c.needs_fit.ensures ∙ c.in_ok-needs.was)

pub returns : goal.returns
returns c =
    let q = given c.args.numbers in
    gives_fit q c.fit.ensures
    (all_fit q c.in_ok-needs.needs c.if-columns-eq0.false (le-ltb 16 q.columns c.if-columns.false)
    (le-ltb 32 (length q.forbidden) c.if-forbidden-gt-MOST_FORBIDDEN.false)
    (as_tested c.first_unfit_set.ensures c.is_some.ensures c.if-is_some.false)
    (sym c.needs_fit.ensures ∙ c.in_ok-needs.was))
