-- `searching::search::Search::can` meets its contract. Assumes nothing.
use Rattle.parts.specs.Parts.{in_table}
use Rattle.searching.specs.Prices.{price_of}
use Rattle.searching.proofs.Trying.{Tried}
use Rattle.searching.proofs.search.Search.+can.Given as goal

abbrev pub decreases-can : goal.decreases-can
decreases-can l = l.self.now.task.extracts

abbrev pub invariant-loop-bits : goal.invariant-loop-bits
invariant-loop-bits l = Tried (in_table l.self.lean.now) price_of l.self.task l.wanted l.bits

abbrev pub decreases-loop-bits : goal.decreases-loop-bits
decreases-loop-bits l = l.bits
