-- How many blocks the sets of so many columns are. Assumes nothing.
use mathlib.Core.Path.{◌≡◌}
use Prim.Native.Nat.{ℕ, ◌+◌, ◌-◌, ◌*◌, ◌^◌, ◌≤◌, ◌<◌}
use native.Mathlib.Omega.{arith}
use lib.Pow.{pow-add, pow_mono}
use Rattle.tables.specs.Tables.{blocks}

pub one_block : (n : ℕ) → n ≤ 6 → blocks n ≡ 1
one_block n h = let None_more : n - 6 ≡ 0 = omega arith in rw None_more

pub most_blocks : (n : ℕ) → n ≤ 16 → blocks n ≤ 1024
most_blocks n h = pow_mono {i = n - 6} {j = 10} (omega arith)

-- every set of n columns stands in one of their blocks
pub sets_within : (n s : ℕ) → s < 2 ^ n → s < 64 * blocks n
sets_within n s h = omega (arith, pow_mono {i = n} {j = 6 + (n - 6)} (omega arith), pow-add 2 6 (n - 6))
