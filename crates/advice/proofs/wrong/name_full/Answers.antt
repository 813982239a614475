-- `advice::wrong::name_full` meets its contract. Assumes nothing.
use mathlib.Core.Path.{◌∙◌}
use Prim.Native.Nat.{◌-◌}
use lib.ListN.{length}
use borrow.Author.Tests.{tests, le-leb, lt-leb}
use Rattle.std.proofs.Common.{rules}
use Rattle.std.proofs.lemmas.Iterator.{YieldsList-from_slice}
use Rattle.std.proofs.lemmas.Iterator.Search.{all_from_yields_List}
use Rattle.rules.specs.Signs.{piece, in_name}
use Rattle.rules.specs.Names.{most_name_bytes}
use Rattle.rules.proofs.Library.{all_every}
use Rattle.advice.specs.Sentences.{name_full}
use Rattle.advice.proofs.wrong.name_full.Goals as goal

pub returns-then-before-ge-MOST_NAME_BYTES : goal.returns-then-before-ge-MOST_NAME_BYTES
unfolding name_full
returns-then-before-ge-MOST_NAME_BYTES c =
    let n = length c.args.before.now in
    let bytes = piece c.args.before.now (n - most_name_bytes) n in
    rw (le-leb most_name_bytes n c.if-before-ge-MOST_NAME_BYTES.true)
    (all_from_yields_List in_name _ _ _ c.all.ensures.ran (YieldsList-from_slice bytes cc) (λ x b q k. search (rules, tests)) ∙ all_every _ bytes)

pub returns-else-before-ge-MOST_NAME_BYTES : goal.returns-else-before-ge-MOST_NAME_BYTES
unfolding name_full
returns-else-before-ge-MOST_NAME_BYTES c = rw (lt-leb most_name_bytes (length c.args.before.now) c.if-before-ge-MOST_NAME_BYTES.false)
