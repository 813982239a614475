-- Laws of a task and of the sets that suit it, as the code computes them. Assumes nothing.
use mathlib.Core.Path.{◌≡◌, sym}
use mathlib.Core.Bool.{Bool, ◌&&◌}
use Prim.Native.Nat.{ℕ, ◌-◌, ◌^◌, ◌<◌}
use lib.Bits.{bit_and}
use lib.Dec.{eqb}
use borrow.Author.Tests.{eq-eqb, ne_eqb}
use Rattle.rules.specs.Sets.{contains, without}
use Rattle.rules.proofs.Sets.{contains_bits, without_bits}
use Rattle.columns.specs.declared.ColumnSet.{ColumnSet}
use Rattle.searching.specs.Searching.{left_after}
use Rattle.searching.specs.declared.task.Task.{Task}

pub task_left : (price : ℕ → ℕ) (task : Task) (s gained : ℕ) (free : ColumnSet) (paid : ℕ) → task.unmet < 2 ^ 16
    → free.bits ≡ without task.free.bits s → paid ≡ price s
    → record { extracts = task.extracts - 1; free = free; unmet = task.unmet - bit_and task.unmet gained; cost = task.cost - paid }
    ≡ left_after price task s gained
task_left price task s gained free paid b f p =
    λ i. record {
      extracts = task.extracts - 1;
      free = record { bits = f i };
      unmet = sym (without_bits task.unmet gained b) i;
      cost = task.cost - p i;
    }

module _ (gained wanted : ℕ) (b : wanted < 2 ^ 16) where
  pub not_suited : (payable : Bool) → (bit_and gained wanted ≡ wanted → ⊥) → eqb (bit_and gained wanted) wanted ≡ (contains gained wanted && payable)
  not_suited payable n = rw (contains_bits gained wanted b, ne_eqb (bit_and gained wanted) wanted n)

  pub suited_if : (payable : Bool) → bit_and gained wanted ≡ wanted → payable ≡ (contains gained wanted && payable)
  suited_if payable e = rw (contains_bits gained wanted b, eq-eqb (bit_and gained wanted) wanted e)
