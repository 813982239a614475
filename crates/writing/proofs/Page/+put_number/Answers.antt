-- `writing::Page::put_number` meets its contract. Assumes nothing.
use mathlib.Core.Path.{◌≡◌}
use Prim.Native.Nat.{◌%◌}
use native.Mathlib.Omega.{arith}
use Rattle.rules.proofs.Words.{decimal_small, decimal_more}
use Rattle.writing.proofs.Adding.{puts_both}
use Rattle.writing.proofs.Page.+put_number.Goals as goal
use Rattle.writing.proofs.Page.+put_number.Goals.{then-number-ge10, else-number-ge10}

pub returns : goal.returns
returns t c =
    elim c.if-number-ge10.branch [
      | then-number-ge10 w ↦ rw (decimal_more _ w.if-number-ge10.true) (puts_both w.put_number.ensures (rw w.self-is at c.put_byte.ensures))
      | else-number-ge10 w ↦
          let digit : c.args.number % 10 ≡ c.args.number = omega arith in
          rw (decimal_small _ w.if-number-ge10.false) (rw (w.self-is, digit) at c.put_byte.ensures)
    ]
