-- `intake::fill` meets its contract. Assumes nothing.
use Rattle.std.proofs.Common.{◌≡◌, ℕ, ◌+◌, ◌≤◌, List, ◌++◌, length, take, sym, subst, take-add, take_at, drop_at, length-take-le, rules}
use Rattle.std.proofs.lemmas.List.{take-append-le}
use Rattle.std.specs.Io.KnownBytes.{Consumes}
use Rattle.std.proofs.KnownBytes.{Consumes-trans}
use Rattle.intake.proofs.fill.Goals as goal

-- what stands before a part, and what was read into it
read_behind : (at more : ℕ) (front part rest : List ℕ) → length front ≡ at → more ≤ length part
    → take (at + more) (front ++ (part ++ rest)) ≡ front ++ take more part
read_behind at more front part rest long fits =
    rw (take-add, take_at front (part ++ rest) at long, drop_at front (part ++ rest) at long, take-append-le more part rest fits)

pub loop-count-preserved : goal.loop-count-preserved
loop-count-preserved g c =
    let before = c.loop-count.invariant in
    let read = c.in-Ok.ensures in
    record {
      within = search rules;
      consumed = subst (Consumes _ _) (sym (read_behind _ _ _ c.read.new.buf _ (length-take-le _ _ before.within) read.bound.0))
          (Consumes-trans _ _ _ _ _ before.consumed read.bytes.0);
    }
