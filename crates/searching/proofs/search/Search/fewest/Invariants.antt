-- `searching::search::Search::fewest` meets its contract. Assumes nothing.
use Prim.Native.Nat.{ℕ, ◌<◌}
use Rattle.parts.specs.Parts.{in_table}
use Rattle.searching.specs.Serving.{Servable}
use Rattle.searching.specs.Prices.{price_of}
use Rattle.searching.proofs.search.Search.fewest.Given as goal

abbrev pub invariant-loop-extracts : goal.invariant-loop-extracts
invariant-loop-extracts l =
    (fewer : ℕ) → fewer < l.extracts → Servable (in_table l.self.lean.now) price_of fewer l.self.task.free.bits l.self.task.unmet
    (price_of l.self.task.free.bits) → ⊥
