-- `advice::remedy::put_name` meets its contract. Assumes nothing.
use Rattle.writing.proofs.Adding.{puts_nothing}
use Rattle.rules.proofs.Names.{name_none, name_run}
use Rattle.advice.proofs.remedy.put_name.Goals as goal

pub returns-then-place-text : goal.returns-then-place-text
returns-then-place-text c = rw (name_run c.name_end.ensures) c.put.ensures

pub returns-else-place-text : goal.returns-else-place-text
returns-else-place-text c = rw (name_none _ _ c.if-place-text.false) puts_nothing
