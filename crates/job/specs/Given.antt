-- Lent numbers in the words of the rules.
use Rattle.rules.specs.Numbers.{Numbers as Said}
use Rattle.job.specs.declared.Numbers.{Numbers}

-- the numbers that are lent
abbrev pub given : Numbers → Said
given numbers =
    record { columns = numbers.columns; forbidden = numbers.forbidden.now; marks = numbers.marks.now }
