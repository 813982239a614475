-- `vjolthar::nothing_read` meets its contract. Assumes nothing.
use Rattle.std.proofs.Common.{rules}
use Rattle.rules.specs.Lists.{written}
use Rattle.text.specs.Tables.{name_rows, name_table}
use Rattle.vjolthar.proofs.nothing_read.Goals as goal

pub returns : goal.returns
unfolding name_table name_rows written
returns c = search rules
