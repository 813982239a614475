-- `advice::advise` meets its contract. Assumes nothing.
use Rattle.std.proofs.Common.{rules}
use Rattle.writing.proofs.Adding.{holds_added}
use Rattle.advice.proofs.advise.Goals as goal

pub returns : goal.returns
returns c = holds_added (search rules)
