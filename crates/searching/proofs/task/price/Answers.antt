-- `searching::task::price` meets its contract. Assumes nothing.
use Rattle.searching.specs.Prices.{price_of}
use Rattle.searching.proofs.task.price.Goals as goal

pub returns : goal.returns
unfolding price_of
returns c = c.count.ensures
