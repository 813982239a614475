-- `naming::sections::counted_by` meets its contract. Assumes nothing.
use mathlib.Core.Path.{sym}
use Rattle.rules.proofs.Signs.{says_told}
use Rattle.naming.proofs.sections.counted_by.Goals as goal

pub returns-then-counts : goal.returns-then-counts
returns-then-counts c = rw (sym c.counts.ensures, c.if-counts.true) (says_told _ _ _ _ c.key_stands.ensures.there c.key_stands.ensures.missing)
