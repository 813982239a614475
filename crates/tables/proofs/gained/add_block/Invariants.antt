-- `tables::gained::add_block` meets its contract. Assumes nothing.
use mathlib.Core.Path.{◌≡◌}
use Prim.Native.Nat.{◌^◌}
use Rattle.tables.proofs.ByteTables.{Gaining}
use Rattle.tables.proofs.gained.add_block.Given as goal

abbrev pub invariant-loop-lane : goal.invariant-loop-lane
invariant-loop-lane l = (l.worth ≡ 2 ^ l.k) × Gaining l.lanes l.worth l.lane l.initial.places l.places
