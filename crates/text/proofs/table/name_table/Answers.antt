-- `text::table::name_table` meets its contract. Assumes nothing.
use mathlib.Core.Path.{◌≡◌, refl, ◌∙◌}
use native.Mathlib.Omega.{arith}
use Rattle.rules.specs.Sets.{most_columns}
use Rattle.text.proofs.Tabling.{filled_none, filled_more, filled_end, filled_full}
use Rattle.text.proofs.table.name_table.Goals as goal

pub loop-columns-init : goal.loop-columns-init
loop-columns-init c = record { text = c.new-places.ensures.text; long = refl; filled = λ q known w. filled_none c.new-places.ensures w }

pub returns-in_default : goal.returns-in_default
returns-in_default c = λ q known w few. filled_end (c.loop-columns.invariant.filled q known w) c.in_default.ensures.steps

pub loop-columns-preserved : goal.loop-columns-preserved
loop-columns-preserved c =
    let l = c.loop-columns in
    let step = c.in-Some.ensures.steps in
    let put = c.put_name in
    record {
      text = step.text ∙ l.invariant.text;
      long = put.auto.names ∙ l.invariant.long;
      filled = λ q known w. filled_more (l.invariant.filled q known w) step c.loop-columns-test.true (λ end run. put.ensures end run);
    }

pub returns : goal.returns
returns c =
    let l = c.loop-columns in
    let all : l.columns ≡ most_columns = omega (arith, c.loop-columns-test.false, l.auto.columns-end) in
    λ q known w few. rw (← all) (filled_full (l.invariant.filled q known w) (omega (arith, all)) few)
