-- `searching::task::Task::after` meets its contract. Assumes nothing.
use native.Mathlib.Omega.{arith}
use Rattle.searching.specs.Prices.{price_of}
use Rattle.searching.proofs.Tasks.{task_left}
use Rattle.searching.proofs.task.Task.after.Goals as goal

pub returns : goal.returns
returns c =
    let a = c.args in
    task_left price_of a.self a.set.bits a.gained c.without.result c.price.result (omega arith) c.without.ensures c.price.ensures
