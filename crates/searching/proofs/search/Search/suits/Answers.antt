-- `searching::search::Search::suits` meets its contract. Assumes nothing.
use native.Mathlib.Omega.{arith}
use lib.Dec.{leb}
use Rattle.parts.specs.Parts.{in_table}
use Rattle.searching.specs.Prices.{price_of}
use Rattle.searching.proofs.Tasks.{not_suited, suited_if}
use Rattle.searching.proofs.search.Search.suits.Goals as goal

pub returns-then-gained-wanted : goal.returns-then-gained-wanted
returns-then-gained-wanted c =
    let a = c.args in
    let met = rw c.gained.ensures at c.if-gained-wanted.true in
    rw c.price.ensures
    (suited_if (in_table a.self.now.lean.now a.set.bits) a.wanted (omega arith) (leb (price_of a.set.bits) a.self.now.task.cost) met)

pub returns-else-gained-wanted : goal.returns-else-gained-wanted
returns-else-gained-wanted c =
    let a = c.args in
    let unmet = rw c.gained.ensures at c.if-gained-wanted.false in
    rw c.gained.ensures
    (not_suited (in_table a.self.now.lean.now a.set.bits) a.wanted (omega arith) (leb (price_of a.set.bits) a.self.now.task.cost) unmet)
