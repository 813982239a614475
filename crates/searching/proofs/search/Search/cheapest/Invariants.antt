-- `searching::search::Search::cheapest` meets its contract. Assumes nothing.
use Prim.Native.Nat.{ℕ, ◌-◌, ◌≤◌, ◌<◌}
use Rattle.parts.specs.Parts.{in_table}
use Rattle.searching.specs.Serving.{Servable}
use Rattle.searching.specs.Prices.{price_of}
use Rattle.searching.proofs.search.Search.cheapest.Given as goal

abbrev pub invariant-loop-low : goal.invariant-loop-low
invariant-loop-low l = (l.low ≤ l.high) × Servable (in_table l.self.lean.now) price_of l.extracts l.self.task.free.bits l.self.task.unmet l.high
    × ((less : ℕ) → less < l.low → Servable (in_table l.self.lean.now) price_of l.extracts l.self.task.free.bits l.self.task.unmet less → ⊥)
    × (l.high ≤ l.initial.high)

abbrev pub decreases-loop-low : goal.decreases-loop-low
decreases-loop-low l = l.high - l.low
