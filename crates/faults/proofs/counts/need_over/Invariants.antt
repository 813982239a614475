-- `faults::counts::need_over` meets its contract. The invariant: of the lines left so many fewer may stand as were counted, and no line before
-- has too many names. Assumes nothing.
use mathlib.Core.Path.{◌≡◌}
use mathlib.Core.List.{List}
use Prim.Native.Nat.{ℕ, ◌-◌, ◌≤◌}
use Rattle.rules.specs.Numbers.{most_needs}
use Rattle.rules.specs.Signs.{need_key}
use Rattle.rules.specs.Names.{Spot}
use Rattle.rules.specs.Texts.{Line}
use Rattle.naming.specs.declared.sections.Section.TheVariants.{Need}
use Rattle.naming.specs.Words.{Rows}
use Rattle.faults.specs.Kinds.{rows_over}
use Rattle.faults.proofs.Left.{RowsLeft}
use Rattle.faults.proofs.counts.need_over.Given as goal

abbrev pub invariant-loop-count : goal.invariant-loop-count
invariant-loop-count l =
    record {
      goes : (goal.iterator-loop-count).can_next l.count-iterator;
      ends : (goal.iterator-loop-count).is_finite l.count-iterator;
      text : l.count-iterator.iter.text.now ≡ l.text;
      few : l.count-iterator.count ≤ most_needs;
      left : (q : ℕ) (rows : List (Line (List Spot))) → Rows l.text need_key l.from q rows
          → RowsLeft l.text Need l.count-iterator.iter q (λ later. rows_over most_needs rows ≡ rows_over (most_needs - l.count-iterator.count) later);
    }
