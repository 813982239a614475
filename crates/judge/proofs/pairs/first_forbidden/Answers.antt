-- `judge::pairs::first_forbidden` meets its contract. Assumes nothing.
use mathlib.Core.Path.{◌≡◌, sym, ap, ◌∙◌}
use native.Mathlib.Omega.{arith}
use lib.ListN.{length, get_or}
use Rattle.rules.specs.Lists.{first_where}
use Rattle.rules.specs.Jobs.{breaks}
use Rattle.rules.proofs.FirstFaults.{forbidden_found, forbidden_nothing}
use Rattle.judge.proofs.pairs.first_forbidden.Goals as goal

pub returns-in-Some : goal.returns-in-Some
returns-in-Some c =
    let l = c.loop-i in
    let split = c.args.split.now in
    λ job e.
    let found = ap (first_where (breaks job (get_or split l.i 0))) e ∙ sym (c.in-Some.ensures job) in
    sym (forbidden_found job split l.i c.in-Some.j (omega arith) (l.invariant job e) found)

pub returns : goal.returns
returns c =
    let l = c.loop-i in
    let split = c.args.split.now in
    let last : l.i ≡ length split = omega arith in
    λ job e. sym (forbidden_nothing job split (rw last at (l.invariant job e)))
