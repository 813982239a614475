-- `searching::search::Search::take` meets its contract. Assumes nothing.
use mathlib.Core.Path.{refl, ◌∙◌}
use native.Mathlib.Omega.{arith}
use Rattle.parts.specs.Parts.{in_table}
use Rattle.searching.specs.Prices.{price_of}
use Rattle.searching.proofs.BestLists.{begun_none, begun_some, begun_more, begun_all}
use Rattle.searching.proofs.search.Search.take.Goals as goal

pub loop-place-init : goal.loop-place-init
loop-place-init c =
    let self = c.args.self.now in
    record {
      same = refl;
      begun = begun_none (in_table self.lean.now) price_of self.task c.args.extracts.now c.requires.0 (omega arith) c.requires.1;
    }

pub next-set-requires : goal.next-set-requires
next-set-requires c =
    let self = c.args.self.now in
    let l = c.loop-place in
    let begun = l.invariant.begun in
    rw l.invariant.same
    (begun_some (in_table self.lean.now) price_of self.task c.args.extracts.now l.search.task l.place l.from l.extracts begun
    (omega (arith, begun.left)))

pub loop-place-preserved : goal.loop-place-preserved
loop-place-preserved c =
    let self = c.args.self.now in
    let l = c.loop-place in
    let begun = l.invariant.begun in
    record {
      same = c.after-search.ensures.lean ∙ l.invariant.same;
      begun = begun_more (in_table self.lean.now) price_of self.task c.args.extracts.now l.search.task l.place l.from l.extracts begun
          (omega (arith, begun.left)) c.next-set.result.bits (rw l.invariant.same at c.next-set.ensures) c.after-search.result.task
          (rw l.invariant.same at c.after-search.ensures.task);
    }

pub returns : goal.returns
returns c =
    let self = c.args.self.now in
    let l = c.loop-place in
    begun_all (in_table self.lean.now) price_of self.task c.args.extracts.now l.search.task l.place l.from l.extracts l.invariant.begun
    (omega (arith, l.invariant.begun.left))
