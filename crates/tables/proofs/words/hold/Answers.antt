-- `tables::words::hold` meets its contract. Assumes nothing.
use Rattle.std.proofs.Common.{rules}
use Rattle.tables.proofs.WordTables.{tells_every}
use Rattle.tables.proofs.words.hold.Goals as goal

pub returns : goal.returns
returns c = tells_every _ _ (c.fill.ensures.after (λ y e. search rules))
