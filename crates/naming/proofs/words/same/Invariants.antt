-- `naming::words::same` meets its contract. The invariant: the two names are alike so far. Assumes nothing.
use Prim.Native.Nat.{ℕ, ◌+◌, ◌≤◌, max}
use lib.ListN.{length}
use Rattle.rules.specs.Names.{Run}
use Rattle.naming.proofs.Alike.{Alike}
use Rattle.naming.proofs.words.same.Given as goal

abbrev pub invariant-loop-i : goal.invariant-loop-i
invariant-loop-i l = (l.other + l.i ≤ max l.other (length l.text))
    × ((p q : ℕ) → Run l.text l.one p → Run l.text l.other q → Alike l.text l.one l.other l.i p q)
