-- `judge::pairs::breaks` meets its contract. Assumes nothing.
use mathlib.Core.Path.{sym, ◌∙◌}
use Rattle.rules.proofs.Jobs.{breaks_contains}
use Rattle.judge.proofs.pairs.breaks.Goals as goal

pub returns : goal.returns
returns c = λ job. c.contains.ensures ∙ sym (breaks_contains job _ _)
