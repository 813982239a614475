-- `planner::plan` meets its contract. Assumes nothing.
use native.Mathlib.Omega.{arith}
use Rattle.rules.specs.Options.{None, Some}
use Rattle.rules.specs.Numbers.{Numbers}
use Rattle.job.specs.Given.{given}
use Rattle.planner.proofs.Answers.{plans_not_fit, plans_no_room, sound, few, few_needs_lem, empty_gains_nothing, plans_best}
use Rattle.std.proofs.Common.{rules}
use Rattle.planner.proofs.plan.Goals as goal

pub returns-in_default : goal.returns-in_default
returns-in_default c = plans_not_fit (given c.args.numbers) c.args.extracts.now c.in_default.ensures

pub returns-then-extracts-lt-MOST_EXTRACTS : goal.returns-then-extracts-lt-MOST_EXTRACTS
returns-then-extracts-lt-MOST_EXTRACTS c =
    let q : Numbers = given c.args.numbers in
    let job = c.in-Some.job in
    plans_no_room q c.args.extracts.now job c.in-Some.ensures c.if-extracts-lt-MOST_EXTRACTS.true

pub overflow_cast-needs : goal.overflow_cast-needs
overflow_cast-needs c =
    let q : Numbers = given c.args.numbers in
    let job = c.in-Some.job in
    omega (arith, few_needs_lem q c.args.extracts.now job c.in-Some.ensures)

pub gains-requires : goal.gains-requires
gains-requires c =
    let q : Numbers = given c.args.numbers in
    let job = c.in-Some.job in
    (sound q c.args.extracts.now job c.in-Some.ensures, search rules)

pub best-requires : goal.best-requires
best-requires c =
    let q : Numbers = given c.args.numbers in
    let job = c.in-Some.job in
    let old = c.args.extracts.now in
    let many = few_needs_lem q old job c.in-Some.ensures in (
      few q old job c.in-Some.ensures,
      many,
      omega (arith, many, c.if-extracts-lt-MOST_EXTRACTS.false),
      empty_gains_nothing q old job c.in-Some.ensures c.if-extracts-lt-MOST_EXTRACTS.false c.gains.new.table c.gains.ensures.told,
    )

pub returns-in_default-best : goal.returns-in_default-best
returns-in_default-best c =
    plans_best (given c.args.numbers) c.args.extracts.now c.in-Some.job c.in-Some.ensures c.if-extracts-lt-MOST_EXTRACTS.false c.gains.new.table
    c.gains.ensures.told None c.best.new.extracts c.in_default-best.ensures.near c.in_default-best.ensures.searched

pub returns : goal.returns
returns c =
    plans_best (given c.args.numbers) c.args.extracts.now c.in-Some.job c.in-Some.ensures c.if-extracts-lt-MOST_EXTRACTS.false c.gains.new.table
    c.gains.ensures.told (Some c.in-Some-best.count) c.best.new.extracts c.in-Some-best.ensures.near c.in-Some-best.ensures.searched
