-- `form::keys::alike` meets its contract. Assumes nothing.
use Rattle.std.proofs.Common.{rules}
use Rattle.std.proofs.iter.runs.Sources.{ranges}
use Rattle.form.proofs.KeyLaws.{alike_told}
use Rattle.form.proofs.keys.alike.Goals as goal

pub returns : goal.returns
returns c =
    let a = c.args in
    alike_told a.one a.other a.k c.all.result (search (rules, ranges)) (search (rules, ranges))
