-- `faults::sections::walk` meets its contract. The invariant: the lines counted and those left are all of them. Assumes nothing.
use mathlib.Core.Path.{◌≡◌}
use mathlib.Core.List.{List}
use Prim.Native.Nat.{ℕ, ◌+◌, ◌-◌, ◌≤◌}
use lib.ListN.{length}
use Rattle.rules.specs.Names.{Spot}
use Rattle.rules.specs.Texts.{Line}
use Rattle.naming.specs.Words.{Rows}
use Rattle.naming.specs.Sections.{key_of}
use Rattle.faults.proofs.Left.{RowsLeft}
use Rattle.faults.proofs.sections.walk.Given as goal

abbrev pub invariant-loop-lines : goal.invariant-loop-lines
invariant-loop-lines l =
    record {
      text : l.walk.text.now ≡ l.text;
      few : (l.lines ≤ l.walk.place) × (l.lines ≤ length l.text);
      left : (q : ℕ) (rows : List (Line (List Spot))) → Rows l.text (key_of l.fn.section) l.from q rows
          → RowsLeft l.text l.fn.section l.walk q (λ later. l.lines + length later ≡ length rows);
    }

abbrev pub decreases-loop-lines : goal.decreases-loop-lines
decreases-loop-lines l = length l.text - l.walk.place
