-- `naming::signs::stands` meets its contract. Assumes nothing.
use mathlib.Core.Path.{◌≡◌, sym, ◌∙◌}
use mathlib.Core.Bool.{true, true≢false}
use lib.ListN.{length}
use Rattle.std.proofs.Common.{rules}
use Rattle.std.proofs.iter.runs.Made.{chains}
use Rattle.naming.proofs.KeysApart.{Begun, begun_said, said_begun}
use Rattle.naming.proofs.signs.stands.Goals as goal

pub returns-then-at-text-clause-there : goal.returns-then-at-text-clause-there
returns-then-at-text-clause-there c = λ e.
    let a = c.args in
    let begun : Begun a.text.now a.at a.bytes.now (length a.bytes.now) = search (rules, chains) in
    begun_said a.text.now a.bytes.now a.at begun

pub returns-then-at-text-clause-missing : goal.returns-then-at-text-clause-missing
returns-then-at-text-clause-missing c = λ e n says.
    let a = c.args in
    let all : Begun a.text.now a.at a.bytes.now (length a.bytes.now) → c.all.result ≡ true = search (rules, chains) in
    true≢false (sym (all (said_begun says)) ∙ e)
