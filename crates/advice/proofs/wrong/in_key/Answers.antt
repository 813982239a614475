-- `advice::wrong::in_key` meets its contract. Assumes nothing.
use mathlib.Core.Path.{◌∙◌}
use mathlib.Core.Bool.{not}
use Prim.Native.Nat.{ℕ, ◌-◌}
use lib.Dec.{eqb}
use borrow.Author.Tests.{tests}
use Rattle.std.proofs.Common.{rules}
use Rattle.std.proofs.lemmas.Iterator.{YieldsList-from_slice}
use Rattle.std.proofs.lemmas.Iterator.Search.{all_from_yields_List}
use Rattle.rules.specs.Signs.{piece}
use Rattle.rules.proofs.Library.{all_every}
use Rattle.advice.specs.Sentences.{equals, in_key}
use Rattle.advice.proofs.wrong.in_key.Goals as goal

pub returns : goal.returns
unfolding in_key
returns c =
    let line = piece c.args.text.now (c.args.place - (c.args.column - 1)) c.args.place in
    all_from_yields_List (λ (b : ℕ). not (eqb b equals)) _ _ _ c.all.ensures.ran (YieldsList-from_slice line cc) (λ x b q k. search (rules, tests))
    ∙ all_every _ line
