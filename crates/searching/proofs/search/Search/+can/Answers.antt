-- `searching::search::Search::can` meets its contract. Assumes nothing.
use mathlib.Core.Path.{sym, subst, ◌∙◌}
use Prim.Native.Nat.{ℕ}
use native.Mathlib.Omega.{arith}
use Rattle.parts.specs.Parts.{in_table}
use Rattle.searching.specs.Prices.{price_of}
use Rattle.searching.proofs.Trying.{denied, all_met, none_left, not_possible, Tried, tried_none, tried_next, not_suitable, not_served, found_one, found_none}
use Rattle.searching.proofs.search.Search.+can.Goals as goal
use Rattle.searching.proofs.search.Search.+can.Goals.{then-task-eq0-via-then-task-eq0, then-task-eq0-via-else-task-eq0+then-task-eq0-2}
use Rattle.searching.proofs.search.Search.+can.Goals.{else-suits-via-then-suits+else-can, else-suits-via-else-suits}

pub returns-then-task-eq0 : goal.returns-then-task-eq0
returns-then-task-eq0 t c =
    let self = c.args.self.now in
    let lean = in_table self.lean.now in
    elim c.then-task-eq0.branch [
      | then-task-eq0-via-then-task-eq0 w ↦ all_met lean price_of self.task w.if-task-eq0.true
      | then-task-eq0-via-else-task-eq0+then-task-eq0-2 w ↦ none_left lean price_of self.task w.if-task-eq0.false w.if-task-eq0-2.true
    ]

pub returns-then-self-free : goal.returns-then-self-free
returns-then-self-free t c =
    let self = c.args.self.now in
    let lean = in_table self.lean.now in
    not_possible lean price_of self.task c.if-task-eq0.false (in_table self.possible.now) (omega arith) (omega arith) self.bounded
    c.if-self-free.true

pub loop-bits-init : goal.loop-bits-init
loop-bits-init t c =
    let self = c.args.self.now in
    tried_none (in_table self.lean.now) price_of self.task c.wanted-wanted.result (omega arith)

pub returns-then-can : goal.returns-then-can
returns-then-can t c =
    let self = c.args.self.now in
    let lean = in_table self.lean.now in
    let wanted = c.wanted-wanted.result in
    found_one lean price_of self.task wanted c.if-task-eq0-2.false c.loop-bits.bits c.loop-bits.invariant.inside
    (sym c.suits.ensures ∙ c.if-suits.true) c.after.result.task c.after.ensures.task
    (rw c.after.ensures.lean at (c.can.ensures.sound c.if-can.true))

pub loop-bits-preserved : goal.loop-bits-preserved
loop-bits-preserved t c =
    let self = c.args.self.now in
    let lean = in_table self.lean.now in
    let wanted = c.wanted-wanted.result in
    tried_next lean price_of self.task wanted c.loop-bits.bits c.loop-bits.invariant
    (elim c.else-suits.branch [
      | else-suits-via-then-suits+else-can w ↦ not_served lean price_of self.task wanted c.loop-bits.bits w.after.result.task w.after.ensures.task
          (denied _ w.can.result (rw w.after.ensures.lean at w.can.ensures) w.if-can.false)
      | else-suits-via-else-suits w ↦ not_suitable lean price_of self.task wanted c.loop-bits.bits (sym c.suits.ensures ∙ w.if-suits.false)
    ])

pub returns : goal.returns
returns t c =
    let self = c.args.self.now in
    let lean = in_table self.lean.now in
    let wanted = c.wanted-wanted.result in
    found_none lean price_of self.task wanted c.if-task-eq0.false c.if-task-eq0-2.false self.bounded.nothing (omega arith) c.wanted-wanted.ensures
    (subst (λ (bits : ℕ). Tried lean price_of self.task wanted bits) c.loop-bits-test.false c.loop-bits.invariant)
