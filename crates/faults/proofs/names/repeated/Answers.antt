-- `faults::names::repeated` meets its contract. Assumes nothing.
use mathlib.Core.Path.{sym, ◌∙◌}
use Rattle.rules.specs.Names.{spot}
use Rattle.faults.proofs.Tested.{twice, once}
use Rattle.faults.proofs.names.repeated.Goals as goal

pub returns-then-stands_before : goal.returns-then-stands_before
returns-then-stands_before c =
    let a = c.args in
    λ p before b e run. twice a.at before (spot a.text.now a.at p) (sym (c.stands_before.ensures p before b e run) ∙ c.if-stands_before.true)

pub returns-else-stands_before : goal.returns-else-stands_before
returns-else-stands_before c =
    let a = c.args in
    λ p before b e run. once a.at before (spot a.text.now a.at p) (sym (c.stands_before.ensures p before b e run) ∙ c.if-stands_before.false)
