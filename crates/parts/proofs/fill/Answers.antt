-- `parts::fill` meets its contract. Assumes nothing.
use mathlib.Core.Path.{◌≡◌}
use Prim.Native.Nat.{◌^◌, ◌≤◌, ◌<◌}
use native.Mathlib.Omega.{arith}
use lib.Pow.{pow_mono}
use Rattle.parts.specs.Parts.{in_table}
use Rattle.parts.proofs.FilledTables.{filled_more, filled_all, all_below}
use Rattle.parts.proofs.fill.Goals as goal

pub loop-s-preserved : goal.loop-s-preserved
loop-s-preserved c =
    let l = c.loop-s in
    let a = c.args in
    let columns : a.columns ≤ 16 = c.requires.0 in
    let small : l.s < 2 ^ 16 = omega (arith, all_below a.columns columns, pow_mono {i = a.columns} {j = 16} columns) in
    filled_more (in_table a.gains.now) l.lean l.possible l.s c.lean_gain.result c.possible_within.result
    small (omega arith) (omega arith) l.invariant c.lean_gain.ensures c.possible_within.ensures

pub returns : goal.returns
returns c =
    let l = c.loop-s in
    let all : l.s ≡ 2 ^ c.args.columns = omega (arith, all_below c.args.columns c.requires.0) in
    filled_all (in_table c.args.gains.now) (in_table l.lean) (in_table l.possible) c.args.columns c.requires.1
    (rw all at l.invariant)
