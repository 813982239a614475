-- `worked::checksum::Checksum::add_all` adds the numbers one after the other. Assumes nothing.
use Rattle.std.proofs.Common.{◌≡◌, ◌+◌, ◌*◌, ◌%◌, ◌^◌, take}
use Rattle.std.specs.List.{fold}
use Rattle.worked.proofs.checksum.Checksum.add_all.Given as goal

abbrev pub invariant-loop-number : goal.invariant-loop-number
invariant-loop-number l = l.self.value ≡ fold (λ value number. (31 * value % 2 ^ 64 + number) % 2 ^ 64) l.initial.self.value (take l.number-index l.numbers)
