-- `text::sets::set_of` meets its contract. Assumes nothing.
use mathlib.Core.Path.{◌≡◌, refl, ap, ◌∙◌}
use Prim.Native.Nat.{◌^◌}
use native.Mathlib.Omega.{arith}
use Rattle.rules.specs.Sets.{union}
use Rattle.rules.specs.Names.{spot}
use Rattle.rules.proofs.SetBits.{bit_fits}
use Rattle.faults.proofs.Left.{names_start, name_next, name_last}
use Rattle.text.proofs.Gathering.{gathered_more, gathered_end}
use Rattle.text.proofs.sets.set_of.Goals as goal

pub loop-place-init : goal.loop-place-init
loop-place-init c =
    record {
      goes = tt;
      ends = tt;
      left = λ q to columns names known few w. rw c.into_iter-place-iterator.ensures.into_iter_gives (names_start c.new-place-items.ensures w refl);
    }

pub loop-place-preserved : goal.loop-place-preserved
loop-place-preserved c =
    let l = c.loop-place in
    let column = c.column_in in
    let grown : c.union-set.result.bits ≡ union l.set.bits (2 ^ column.result)
    = c.union-set.ensures ∙ ap (union l.set.bits) (bit_fits column.result (omega (arith, column.ensures.few))) in
    record {
      goes = tt;
      ends = tt;
      left = λ q to columns names known few w.
          name_next (l.invariant.left q to columns names known few w) c.in-Some.ensures.steps
          (λ end later n skips same.
          rw grown
          (gathered_more columns l.set.bits (spot c.args.text.now c.in-Some.place end) later (column.ensures.is end q columns known few n.run) same));
    }

pub returns : goal.returns
returns c =
    λ q to columns names known few w.
    gathered_end columns c.loop-place.set.bits (name_last (c.loop-place.invariant.left q to columns names known few w) c.in-None.ensures.steps)
