-- `report::put_page` meets its contract. Assumes nothing.
use Rattle.report.proofs.Answers.{ends_released, ends_refused}
use Rattle.report.proofs.put_page.Goals as goal

pub returns-in-Ok : goal.returns-in-Ok
returns-in-Ok c = ends_released c.in-Ok.ensures c.put_split.ensures

pub returns-in-Err : goal.returns-in-Err
returns-in-Err c = ends_refused c.in-Err.ensures (rw c.from-number.ensures at c.put_refusal.ensures)
