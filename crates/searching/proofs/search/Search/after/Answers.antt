-- `searching::search::Search::after` meets its contract. Assumes nothing.
use mathlib.Core.Path.{sym, subst}
use Rattle.rules.specs.Sets.{without}
use Rattle.rules.proofs.Differences.{contains_without}
use Rattle.parts.specs.Parts.{in_table, Bounded}
use Rattle.searching.specs.declared.task.Task.{Task}
use Rattle.searching.proofs.Trying.{bounded_part}
use Rattle.searching.proofs.search.Search.after.Goals as goal

pub invariant_of-result : goal.invariant_of-result
invariant_of-result c =
    let self = c.args.self.now in
    let lean = in_table self.lean.now in
    let possible = in_table self.possible.now in
    let free = self.task.free.bits in
    let set = c.args.set.bits in
    record {
      bounded = subst (λ (rest : Task). Bounded lean possible rest.free.bits) (sym c.after-task.ensures)
          (bounded_part lean possible free (without free set) (contains_without free set) self.bounded);
    }
