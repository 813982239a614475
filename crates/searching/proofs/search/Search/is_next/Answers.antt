-- `searching::search::Search::is_next` meets its contract. Assumes nothing.
use mathlib.Core.Path.{◌≡◌, sym, ◌∙◌}
use Prim.Native.Nat.{ℕ}
use native.Mathlib.Omega.{arith}
use lib.Bits.{bit_and}
use Rattle.parts.specs.Parts.{Inside, in_table}
use Rattle.searching.specs.Prices.{price_of}
use Rattle.searching.proofs.Nexts.{meets_nothing, not_free, too_dear, goes_on_lem}
use Rattle.searching.proofs.search.Search.is_next.Goals as goal

pub returns-then-gained-self-eq0 : goal.returns-then-gained-self-eq0
returns-then-gained-self-eq0 c =
    let self = c.args.self.now in
    let lean = in_table self.lean.now in
    let set : ℕ = c.args.set.bits in
    elim c.then-gained-self-eq0.branch [
      | goal.then-gained-self-eq0-via-then-gained-self-eq0 w ↦ meets_nothing lean price_of self.task set (omega arith)
          (rw c.gained.ensures at w.if-gained-self-eq0.true)
      | goal.then-gained-self-eq0-via-else-gained-self-eq0+then-not-contains w ↦ not_free lean price_of self.task set
          (sym w.contains.ensures ∙ w.if-not-contains.true)
      | goal.then-gained-self-eq0-via-else-gained-self-eq0+else-not-contains+then-self-price w ↦ too_dear lean price_of self.task set
          (omega (arith, w.price.ensures, w.if-self-price.true))
    ]

pub returns : goal.returns
returns c =
    let self = c.args.self.now in
    let lean = in_table self.lean.now in
    let set : ℕ = c.args.set.bits in
    let some : bit_and (lean set) self.task.unmet ≡ 0 → ⊥ = rw c.gained.ensures at c.if-gained-self-eq0.false in
    let inside : Inside self.task.free.bits set =
    record { small = omega arith; within = sym c.contains.ensures ∙ c.if-not-contains.false } in
    goes_on_lem lean price_of self.task set (omega arith) some inside (omega (arith, c.price.ensures, c.if-self-price.false)) c.after.result.task
    c.after.ensures.task c.can.result (rw c.after.ensures.lean at c.can.ensures)
