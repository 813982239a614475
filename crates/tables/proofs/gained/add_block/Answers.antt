-- `tables::gained::add_block` meets its contract. Assumes nothing.
use Prim.Native.Nat.{ℕ, ◌^◌, ◌≤◌, ◌<◌}
use native.Mathlib.Omega.{arith}
use lib.Pow.{pow_mono}
use Rattle.tables.proofs.WordTables.{stays_at}
use Rattle.tables.proofs.gained.add_block.Goals as goal

-- what omega cannot see of a power: a byte holds two of them
room : (k : ℕ) → k < 8 → 2 ^ k ≤ 128
room k h = pow_mono {i = k} {j = 7} (omega arith)

pub overflow_add-place : goal.overflow_add-place
overflow_add-place c =
    let l = c.loop-lane in
    let kept = stays_at l.lane l.lane c.args.places.now l.places (omega arith) l.invariant.1.stays in
    record { fits = omega (arith, kept, c.requires.2 l.lane (omega arith), room c.args.k (omega arith)) }
