-- `writing::Page::put_byte` meets its contract. Assumes nothing.
use mathlib.Core.Path.{refl}
use Rattle.writing.proofs.Adding.{adds_byte, adds_no_byte}
use Rattle.writing.proofs.Page.put_byte.Goals as goal

pub returns-then-self : goal.returns-then-self
returns-then-self c = record { same_reference = refl; adds = adds_byte _ _ _ c.if-self.true }

pub returns-else-self : goal.returns-else-self
returns-else-self c = record { same_reference = refl; adds = adds_no_byte _ _ _ c.if-self.false }
