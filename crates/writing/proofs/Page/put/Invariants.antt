-- `writing::Page::put` meets its contract. The invariant: the bytes before the index are put. Assumes nothing.
use lib.ListN.{take}
use Rattle.writing.specs.Puts.{Puts}
use Rattle.writing.proofs.Page.put.Given as goal

abbrev pub invariant-loop-sign : goal.invariant-loop-sign
invariant-loop-sign l = Puts (take l.sign-index l.words) l.initial.self l.self
