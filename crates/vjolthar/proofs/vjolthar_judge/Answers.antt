-- `vjolthar::vjolthar_judge` meets its contract. Assumes nothing.
use mathlib.Core.Path.{◌∙◌, ap}
use Rattle.vjolthar.specs.Verdicts.{told_of}
use Rattle.vjolthar.proofs.vjolthar_judge.Goals as goal

pub returns : goal.returns
returns c = c.from-told.ensures ∙ ap told_of c.judge.ensures
