-- `naming::words::stands_before` meets its contract. The invariant: whether the name stands among those from the loop's place on is whether it
-- stands among all. Assumes nothing.
use mathlib.Core.Path.{◌≡◌}
use mathlib.Core.Bool.{true}
use mathlib.Core.List.{List}
use Prim.Native.Nat.{ℕ, ◌-◌}
use Rattle.rules.specs.Signs.{byte_at, in_name}
use Rattle.rules.specs.Names.{Spot, spot, Run}
use Rattle.naming.specs.Words.{Between}
use Rattle.naming.proofs.Sought.{Among}
use Rattle.naming.proofs.words.stands_before.Given as goal

abbrev pub invariant-loop-place : goal.invariant-loop-place
invariant-loop-place l = (p : ℕ) (before : List Spot) → Between l.text l.from l.at before → in_name (byte_at l.text l.at) ≡ true → Run l.text l.at p
    → Among l.text l.place l.at (spot l.text l.at p) before

abbrev pub decreases-loop-place : goal.decreases-loop-place
decreases-loop-place l = l.at - l.place
