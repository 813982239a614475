-- The needs as eight rows of 63 marks. A place without a mark holds the end mark.
use Rattle.std.specs.Prelude.{◌≡◌, List, [], map, ℕ, ◌<◌, length, get_or, replicate}
use Rattle.rules.specs.Options.{Some}
use Rattle.rules.specs.Lists.{written}
use Rattle.rules.specs.Needs.{Need, column}
use Rattle.rules.specs.Marks.{end_mark, before_end, need_of}

-- a row without a mark
unfoldable pub empty_row : List ℕ
empty_row = replicate 63 end_mark

-- a need's marks laid in a row, as many as it has places
unfoldable pub row_of : List ℕ → List ℕ
row_of need = written need empty_row

-- needs laid in eight rows, as many as there are rows
unfoldable pub rows_of : List (List ℕ) → List (List ℕ)
rows_of needs = written (map row_of needs) (replicate 8 empty_row)

-- each of the needs is what its row stands for
abbrev pub StandFor : List (List ℕ) → List Need → Type 0
StandFor rows needs = (k : ℕ) → k < length needs → need_of (before_end (get_or rows k [])) ≡ Some (get_or needs k (column 0))
