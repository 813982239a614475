-- `job::fitness::set_unfit` meets its contract. Assumes nothing.
use mathlib.Core.Path.{sym}
use Rattle.rules.specs.Numbers.{set_unfit}
use Rattle.job.proofs.fitness.set_unfit.Goals as goal

pub returns-then-is_empty : goal.returns-then-is_empty
unfolding set_unfit
returns-then-is_empty c = rw (sym c.is_empty.ensures, c.if-is_empty.true)

pub returns-else-is_empty : goal.returns-else-is_empty
unfolding set_unfit
returns-else-is_empty c = rw (c.within.ensures, sym c.is_empty.ensures, c.if-is_empty.false)
