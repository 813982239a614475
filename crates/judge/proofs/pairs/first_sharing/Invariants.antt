-- `judge::pairs::first_sharing` meets its contract. Assumes nothing.
use mathlib.Core.Path.{◌≡◌}
use Prim.Native.Nat.{◌<◌, ◌≤◌}
use lib.ListN.{length}
use Rattle.rules.specs.Jobs.{Job}
use Rattle.rules.proofs.FirstFaults.{UnlinkedTo, UnlinkedBefore}
use Rattle.rules.specs.Options.{None}
use Rattle.judge.proofs.pairs.first_sharing.Given as goal

abbrev pub invariant-loop-j : goal.invariant-loop-j
invariant-loop-j l = (l.i < l.j) × (l.j ≤ length l.split) × (l.found ≡ None) × ((job : Job) → UnlinkedTo job l.split l.i l.j)

abbrev pub invariant-search : goal.invariant-search
invariant-search l = (l.i ≤ length l.split) × (l.found ≡ None) × ((job : Job) → UnlinkedBefore job l.split l.i)
