-- The numbers of the refusals, as 01's table has them.
use Rattle.std.specs.Prelude.{ℕ}

-- the text is over 8,192 bytes
abbrev pub text_too_long : ℕ
text_too_long = 1

-- the text is not of the form
abbrev pub text_not_of_form : ℕ
text_not_of_form = 2

-- a 17th column, 33rd forbid line, 9th need line or 33rd name in a need
abbrev pub too_many_parts : ℕ
too_many_parts = 3

-- a name twice among the columns, or a known name twice in one forbid line
abbrev pub name_twice : ℕ
name_twice = 4

-- a name that is no column
abbrev pub name_unknown : ℕ
name_unknown = 5

-- the end line has another number
abbrev pub end_number_other : ℕ
end_number_other = 6

-- the numbers are unfit, or the need chosen doesn't exist
abbrev pub numbers_unfit : ℕ
numbers_unfit = 7

-- a lent slice is too short
abbrev pub slice_too_short : ℕ
slice_too_short = 8

-- no correct split exists
abbrev pub no_correct_split : ℕ
no_correct_split = 9
