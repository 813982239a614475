-- `vjolthar::hand_out` meets its contract. Assumes nothing.
use Rattle.writing.proofs.Adding.{holds_added}
use Rattle.vjolthar.proofs.hand_out.Goals as goal

pub returns-clause-names : goal.returns-clause-names
returns-clause-names c = (holds_added c.put.ensures).held
