-- `naming::words::name_end` meets its contract. Assumes nothing.
use Rattle.naming.proofs.Fronts.{name_ends}
use Rattle.naming.proofs.words.name_end.Goals as goal

pub returns : goal.returns
returns c = rw c.name_at.ensures.is (name_ends c.args.text.now c.args.at)
