-- `naming::words::stands_before` meets its contract. The invariant: whether the name stands among those from the loop's place on is whether it
-- stands among all. Assumes nothing.
use mathlib.Core.Path.{sym, ◌∙◌}
use Rattle.naming.proofs.Runs.{told}
use Rattle.naming.proofs.Sought.{among_start, among_none, among_here, among_next, among_end}
use Rattle.naming.proofs.words.stands_before.Goals as goal

pub loop-place-init : goal.loop-place-init
loop-place-init c = λ p before b e run. among_start b e c.next_name-place.ensures

pub returns-then-not-in_name : goal.returns-then-not-in_name
returns-then-not-in_name c =
    let l = c.loop-place in
    let over = told c.byte.ensures c.in_name.ensures c.if-not-in_name.true in
    λ p before b e run. sym (among_none (l.invariant p before b e run) over)

pub returns-then-same : goal.returns-then-same
returns-then-same c =
    let here = told c.byte.ensures c.in_name.ensures c.if-not-in_name.false in
    λ p before b e run.
    sym (among_here (c.loop-place.invariant p before b e run) here c.loop-place-test.true
    (λ r named. sym (c.same.ensures r p named run) ∙ c.if-same.true))

pub loop-place-preserved : goal.loop-place-preserved
loop-place-preserved c =
    let here = told c.byte.ensures c.in_name.ensures c.if-not-in_name.false in
    let ends = c.name_end.ensures in
    λ p before b e run.
    among_next (c.loop-place.invariant p before b e run) here c.loop-place-test.true ends
    (sym (c.same.ensures c.name_end.result p ends run) ∙ c.if-same.false) c.next_name-place-in-loop-place.ensures

pub returns : goal.returns
returns c = λ p before b e run. sym (among_end (c.loop-place.invariant p before b e run) c.loop-place-test.false)
