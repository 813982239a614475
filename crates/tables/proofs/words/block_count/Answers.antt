-- `tables::words::block_count` meets its contract. Assumes nothing.
use native.Mathlib.Omega.{arith}
use Rattle.tables.proofs.Blocks.{most_blocks}
use Rattle.tables.proofs.words.block_count.Goals as goal

pub returns-then-columns-lt16-clause-few : goal.returns-then-columns-lt16-clause-few
returns-then-columns-lt16-clause-few c = omega (arith, most_blocks c.args.columns (omega arith))
