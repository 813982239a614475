-- `naming::known::column_in` meets its contract. Assumes nothing.
use Rattle.rules.specs.Sheets.{column_in}
use Rattle.naming.proofs.known.column_in.Goals as goal

pub returns-clause-is : goal.returns-clause-is
unfolding column_in
returns-clause-is c = λ p q columns w few run. rw (c.unwrap_or.ensures, c.column_of.ensures.is p q columns w few run)
