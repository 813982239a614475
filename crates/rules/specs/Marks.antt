-- Needs as numbers. "Marks for the needs, operands before their join: 0 to 15 a column, 16 and, 17 or, 18 the end of a need."
use Rattle.std.specs.Prelude.{cond, List, [], ◌∷◌, ℕ, eqb}
use Rattle.rules.specs.Options.{Option, None, Some, bind}
use Rattle.rules.specs.Needs.{Need, column, both, either}

-- "16 and, 17 or, 18 the end of a need"
abbrev pub and_mark : ℕ
and_mark = 16

abbrev pub or_mark : ℕ
or_mark = 17

abbrev pub end_mark : ℕ
end_mark = 18

-- a mark in front of the first row
unfoldable pub in_front : ℕ → List (List ℕ) → List (List ℕ)
in_front m [] = (m ∷ []) ∷ []
in_front m (row ∷ rows) = (m ∷ row) ∷ rows

-- the rows between the end marks; marks after the last end mark are a row too
unfoldable pub rows : List ℕ → List (List ℕ)
rows [] = []
rows (m ∷ marks) = cond (eqb m end_mark) ([] ∷ rows marks) (in_front m (rows marks))

-- the marks before the first end mark
unfoldable pub before_end : List ℕ → List ℕ
before_end [] = []
before_end (m ∷ marks) = cond (eqb m end_mark) [] (m ∷ before_end marks)

-- a join of the last two operands, the later one being the right side; there must be two
unfoldable pub joined : (Need → Need → Need) → List Need → Option (List Need)
joined join [] = None
joined join (w ∷ []) = None
joined join (w ∷ v ∷ operands) = Some (join v w ∷ operands)

-- the operands after one mark more, the last one first
unfoldable pub after : ℕ → List Need → Option (List Need)
after m operands =
    cond (eqb m and_mark) (joined both operands) (cond (eqb m or_mark) (joined either operands) (Some (column m ∷ operands)))

-- the operands that a row leaves; none where a join has fewer than two before it
unfoldable pub operands_of : List ℕ → List Need → Option (List Need)
operands_of [] operands = Some operands
operands_of (m ∷ row) operands = bind (after m operands) (operands_of row)

-- the only operand there is
unfoldable pub only : List Need → Option Need
only [] = None
only (v ∷ []) = Some v
only (v ∷ w ∷ operands) = None

-- the need that a row of marks stands for
unfoldable pub need_of : List ℕ → Option Need
need_of row = bind (operands_of row []) only

-- the needs that rows of marks stand for, all or none
unfoldable pub needs_of : List (List ℕ) → Option (List Need)
needs_of [] = Some []
needs_of (row ∷ rows) = bind (need_of row) (λ v. bind (needs_of rows) (λ vs. Some (v ∷ vs)))
