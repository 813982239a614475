-- `judge::pairs::first_sharing` meets its contract. Assumes nothing.
use mathlib.Core.Path.{◌≡◌, sym, ◌∙◌}
use native.Mathlib.Omega.{arith}
use lib.ListN.{length}
use Rattle.rules.proofs.FirstFaults.{sharing_found, sharing_nothing}
use Rattle.judge.proofs.pairs.first_sharing.Goals as goal

pub returns-after-search : goal.returns-after-search
returns-after-search c =
    let o = c.search in
    let split = c.args.split.now in
    let last : o.i ≡ length split = omega arith in
    λ job. rw o.invariant.1 (sym (sharing_nothing job split (rw last at (o.invariant.2 job))))

pub returns-then-not-unlinked : goal.returns-then-not-unlinked
returns-then-not-unlinked c =
    let l = c.loop-j in
    let o = c.search in
    let split = c.args.split.now in
    λ job.
    let shared = sym (c.unlinked.ensures job) ∙ c.if-not-unlinked.true in
    sym (sharing_found job split o.i l.j l.invariant.0 (omega arith) (o.invariant.2 job) (l.invariant.3 job) shared)
