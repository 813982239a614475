-- `form::form` meets its contract. Assumes nothing.
use native.Mathlib.Omega.{arith}
use Rattle.form.proofs.Places.{followed_begin, followed_possible, followed_on, followed_wrong, followed_whole, followed_short}
use Rattle.form.proofs.form.Goals as goal

pub loop-i-init : goal.loop-i-init
loop-i-init c = followed_begin c.args.text.now

pub step-state-requires : goal.step-state-requires
step-state-requires c = followed_possible _ c.loop-i.invariant

pub returns-in-Wrong : goal.returns-in-Wrong
returns-in-Wrong c =
    let stepped = c.step-state in
    followed_wrong c.args.text.now stepped.result c.loop-i.invariant (omega arith)
    stepped.ensures c.in-Wrong.is

pub loop-i-preserved : goal.loop-i-preserved
loop-i-preserved c =
    let stepped = c.step-state in
    followed_on c.args.text.now stepped.result c.loop-i.invariant (omega arith)
    stepped.ensures c.in_default.not-Wrong

pub returns-in-Done : goal.returns-in-Done
returns-in-Done c = followed_whole c.args.text.now c.loop-i.invariant c.loop-i-test.false c.in-Done.is

pub returns-in_default-state : goal.returns-in_default-state
returns-in_default-state c = followed_short c.args.text.now c.loop-i.invariant c.loop-i-test.false c.in_default-state.not-Done
