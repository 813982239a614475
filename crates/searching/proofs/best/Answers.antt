-- `searching::best` meets its contract. Assumes nothing.
use native.Mathlib.Omega.{arith}
use Rattle.parts.specs.Parts.{in_table}
use Rattle.searching.proofs.WholeSearch.{best_none, best_least, best_found}
use Rattle.searching.proofs.best.Goals as goal

pub returns-in_err-count-clause-searched : goal.returns-in_err-count-clause-searched
returns-in_err-count-clause-searched c =
    let a = c.args in
    let tables = c.fill.new in
    rw c.from_residual.ensures
    (best_none (in_table a.gains.now) (in_table tables.lean) (in_table tables.possible) a.columns a.needs c.full-free.result.bits
    c.requires.0 c.requires.1 c.fill.ensures c.full-free.ensures c.in_err-count.ensures.fewest a.extracts.now)

pub take-requires : goal.take-requires
take-requires c =
    let a = c.args in
    let tables = c.fill.new in
    let found = c.in_ok-count.ensures in (
      rw c.within.ensures.task (omega (arith, found.near, c.requires.2)),
      rw c.within.ensures.lean
          (best_least (in_table a.gains.now) (in_table tables.lean) (in_table tables.possible) a.columns a.needs c.full-free.result.bits
          c.requires.0 c.requires.1 c.fill.ensures c.full-free.ensures c.in_ok-count.count c.cheapest-cost.result found.near found.fewest
          c.cheapest-cost.ensures c.within.result.task c.within.ensures.task),
    )

pub returns-clause-searched : goal.returns-clause-searched
returns-clause-searched c =
    let a = c.args in
    let tables = c.fill.new in
    let found = c.in_ok-count.ensures in
    best_found (in_table a.gains.now) (in_table tables.lean) (in_table tables.possible) a.columns a.needs c.full-free.result.bits
    c.requires.0 c.requires.1 c.fill.ensures c.full-free.ensures c.in_ok-count.count c.cheapest-cost.result found.near found.fewest
    c.cheapest-cost.ensures c.within.result.task c.within.ensures.task a.extracts.now c.take.new.extracts
    (rw c.within.ensures.lean at c.take.ensures)
