-- `judge::pairs::unlinked` meets its contract. Assumes nothing.
use mathlib.Core.Path.{sym, ◌∙◌}
use Rattle.rules.proofs.Jobs.{unlinked_apart}
use Rattle.judge.proofs.pairs.unlinked.Goals as goal

pub returns : goal.returns
returns c = λ job. c.apart.ensures ∙ sym (unlinked_apart job _ _)
