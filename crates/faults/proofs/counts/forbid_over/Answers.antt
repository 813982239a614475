-- `faults::counts::forbid_over` meets its contract. Assumes nothing.
use mathlib.Core.Path.{ap, ◌∙◌}
use Rattle.rules.specs.Options.{option_map}
use Rattle.rules.specs.Numbers.{most_forbidden}
use Rattle.rules.specs.Refusals.{too_many_parts}
use Rattle.rules.specs.Sheets.{refusal}
use Rattle.faults.proofs.Yielding.{nth_line}
use Rattle.faults.proofs.counts.forbid_over.Goals as goal

pub returns : goal.returns
returns c = λ q rows r. c.too_many.ensures ∙ ap (option_map (refusal too_many_parts)) (nth_line most_forbidden c.nth.new.self c.new.ensures r c.nth.ensures.ran)
