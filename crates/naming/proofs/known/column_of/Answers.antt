-- `naming::known::column_of` meets its contract. The invariant: the columns from the loop's place on are all but so many, and none of those is
-- the name. Assumes nothing.
use mathlib.Core.Path.{sym, ◌∙◌}
use native.Mathlib.Omega.{arith}
use Rattle.naming.proofs.Runs.{told}
use Rattle.naming.proofs.Sought.{sought_start, sought_none, sought_here, sought_next, sought_all}
use Rattle.naming.proofs.known.column_of.Goals as goal

pub loop-column-init : goal.loop-column-init
loop-column-init c = λ p q columns w run. sought_start w c.next_name-place.ensures

pub returns-then-not-in_name-clause-is : goal.returns-then-not-in_name-clause-is
returns-then-not-in_name-clause-is c =
    let over = told c.byte.ensures c.in_name.ensures c.if-not-in_name.true in
    λ p q columns w few run. sym (sought_none (c.loop-column.invariant p q columns w run) over)

pub returns-then-same-clause-is : goal.returns-then-same-clause-is
returns-then-same-clause-is c =
    let here = told c.byte.ensures c.in_name.ensures c.if-not-in_name.false in
    λ p q columns w few run.
    sym (sought_here (c.loop-column.invariant p q columns w run) here (λ r named. sym (c.same.ensures r p named run) ∙ c.if-same.true))

pub loop-column-preserved : goal.loop-column-preserved
loop-column-preserved c =
    let here = told c.byte.ensures c.in_name.ensures c.if-not-in_name.false in
    let ends = c.name_end.ensures in
    λ p q columns w run.
    sought_next (c.loop-column.invariant p q columns w run) here ends
    (sym (c.same.ensures c.name_end.result p ends run) ∙ c.if-same.false) c.next_name-place-in-loop-column.ensures

pub returns-clause-is : goal.returns-clause-is
returns-clause-is c =
    λ p q columns w few run. sym (sought_all (c.loop-column.invariant p q columns w run) (omega arith) few)
