-- `judge::judge` meets its contract. Assumes nothing.
use mathlib.Core.Path.{sym}
use Rattle.std.proofs.Common.{rules}
use Rattle.job.specs.Given.{given}
use Rattle.judge.proofs.Judging.{not_loaded, known, answer_improper, answer_forbids, answer_shares, answer_unmet, answer_right}
use Rattle.judge.proofs.judge.Goals as goal

pub returns-in_default : goal.returns-in_default
returns-in_default c = sym (not_loaded (given c.args.numbers) c.args.split.now c.load.result c.load.ensures c.in_default.is)

pub returns-in-Some-first_unfit_set : goal.returns-in-Some-first_unfit_set
returns-in-Some-first_unfit_set c =
    sym (answer_improper (given c.args.numbers) c.args.split.now c.load.ensures c.in-Some.is
    c.first_unfit_set.ensures _ c.in-Some-first_unfit_set.is)

pub returns-in-Some-first_forbidden : goal.returns-in-Some-first_forbidden
returns-in-Some-first_forbidden c =
    sym (answer_forbids (given c.args.numbers) c.args.split.now c.load.ensures c.in-Some.is
    c.first_unfit_set.ensures c.in_default-first_unfit_set.is c.first_forbidden.ensures _ _ c.in-Some-first_forbidden.is)

pub returns-in-Some-first_sharing : goal.returns-in-Some-first_sharing
returns-in-Some-first_sharing c =
    sym (answer_shares (given c.args.numbers) c.args.split.now c.load.ensures c.in-Some.is
    c.first_unfit_set.ensures c.in_default-first_unfit_set.is c.first_forbidden.ensures c.in_default-first_forbidden.is
    c.first_sharing.ensures _ _ c.in-Some-first_sharing.is)

pub slice_bounds-rows-end : goal.slice_bounds-rows-end
slice_bounds-rows-end c =
    let few = (known (given c.args.numbers) c.args.split.now c.load.ensures c.in-Some.is).few in
    search rules

pub slice_bounds-first_unmet-end : goal.slice_bounds-first_unmet-end
slice_bounds-first_unmet-end c =
    let few = (known (given c.args.numbers) c.args.split.now c.load.ensures c.in-Some.is).few in
    search rules

pub returns-in-Some-first_unmet : goal.returns-in-Some-first_unmet
returns-in-Some-first_unmet c =
    let few = (known (given c.args.numbers) c.args.split.now c.load.ensures c.in-Some.is).few in
    sym (answer_unmet (given c.args.numbers) c.args.split.now c.load.ensures c.in-Some.is
    c.first_unfit_set.ensures c.in_default-first_unfit_set.is c.first_forbidden.ensures c.in_default-first_forbidden.is
    c.first_sharing.ensures c.in_default-first_sharing.is c.rows_of-rows.ensures (search rules)
    c.first_unmet.ensures _ c.in-Some-first_unmet.is)

pub returns : goal.returns
returns c =
    let few = (known (given c.args.numbers) c.args.split.now c.load.ensures c.in-Some.is).few in
    sym (answer_right (given c.args.numbers) c.args.split.now c.load.ensures c.in-Some.is
    c.first_unfit_set.ensures c.in_default-first_unfit_set.is c.first_forbidden.ensures c.in_default-first_forbidden.is
    c.first_sharing.ensures c.in_default-first_sharing.is c.rows_of-rows.ensures (search rules)
    c.first_unmet.ensures c.in_default-first_unmet.is)
