-- `spelt::spelling::decimal` leaves no more signs than there were. Assumes nothing.
use Rattle.std.proofs.Common.{◌≤◌, length}
use Rattle.std.specs.Slice.Iter.{iter_rest}
use Rattle.spelt.proofs.spelling.decimal.Given as goal

abbrev pub invariant-loop-sign : goal.invariant-loop-sign
invariant-loop-sign l = length (iter_rest l.signs) ≤ length (iter_rest l.initial.signs)
