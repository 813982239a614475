-- `searching::search::Search::next` meets its contract. Assumes nothing.
use Rattle.parts.specs.Parts.{in_table}
use Rattle.searching.specs.Prices.{price_of}
use Rattle.searching.proofs.Nexts.{Passed}
use Rattle.searching.proofs.search.Search.next.Given as goal

abbrev pub invariant-loop-number : goal.invariant-loop-number
invariant-loop-number l = Passed (in_table l.self.lean.now) price_of l.self.task l.from l.number
