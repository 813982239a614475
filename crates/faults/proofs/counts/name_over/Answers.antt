-- `faults::counts::name_over` meets its contract. Assumes nothing.
use mathlib.Core.Path.{ap, ◌∙◌}
use Rattle.rules.specs.Options.{option_map}
use Rattle.rules.specs.Refusals.{too_many_parts}
use Rattle.rules.specs.Sheets.{refusal}
use Rattle.faults.proofs.Yielding.{nth_name}
use Rattle.faults.proofs.counts.name_over.Goals as goal

pub returns : goal.returns
returns c = λ q names w. c.too_many.ensures ∙ ap (option_map (refusal too_many_parts)) (nth_name c.args.most c.nth.new.self c.new.ensures w c.nth.ensures.ran)
