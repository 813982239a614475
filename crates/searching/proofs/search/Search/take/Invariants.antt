-- `searching::search::Search::take` meets its contract. Assumes nothing.
use mathlib.Core.Path.{◌≡◌}
use Rattle.parts.specs.Parts.{in_table}
use Rattle.searching.specs.Prices.{price_of}
use Rattle.searching.proofs.BestLists.{Begun}
use Rattle.searching.proofs.search.Search.take.Given as goal

abbrev pub invariant-loop-place : goal.invariant-loop-place
invariant-loop-place l =
    record {
      same : l.search.lean.now ≡ l.self.lean.now;
      begun : Begun (in_table l.self.lean.now) price_of l.self.task l.search.task l.place l.from l.initial.extracts l.extracts;
    }
