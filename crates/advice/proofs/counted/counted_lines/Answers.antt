-- `advice::counted::counted_lines` meets its contract. Assumes nothing.
use mathlib.Core.Path.{◌∙◌}
use mathlib.Core.Bool.{◌&&◌}
use Prim.Native.Nat.{ℕ}
use native.Mathlib.Omega.{arith}
use lib.ListN.{length}
use borrow.Author.Tests.{tests}
use Rattle.std.proofs.Common.{rules}
use Rattle.std.proofs.lemmas.Iterator.{YieldsList-from_range}
use Rattle.std.proofs.lemmas.Iterator.Consumers.{YieldsList-from_filter, count_from_yields_List}
use Rattle.rules.specs.Positions.{line_begins}
use Rattle.naming.specs.Sections.{counted_at}
use Rattle.advice.proofs.CountedLines.{lines_kept}
use Rattle.advice.proofs.counted.counted_lines.Goals as goal

pub returns : goal.returns
returns c =
    let s = c.args.text.now in
    count_from_yields_List _ _ c.count.ensures.ran
    (YieldsList-from_filter _ (λ (p : ℕ). line_begins s p && counted_at s p) (YieldsList-from_range 0 (length s) (length s) (search rules) (omega arith))
    c.filter.ensures.closure
    (λ x r q k. search (rules, tests)))
    ∙ lines_kept s
