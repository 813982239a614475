-- The marks of a formula, and how many they are, so that a reader finds room for them. Assumes nothing.
use mathlib.Core.Path.{◌≡◌, refl, ap}
use mathlib.Core.List.{List, [], ◌∷◌, ◌++◌}
use Prim.Native.Nat.{ℕ, ◌+◌, ◌<◌, ◌≤◌}
use native.Mathlib.Omega.{arith}
use lib.ListN.{length, length-append}
use Rattle.rules.specs.Marks.{and_mark, or_mark}
use Rattle.rules.specs.Names.{Spot}
use Rattle.rules.specs.Phrases.{Formula, Join, ors, ands, join_of, rest, Stands, last, next}
use Rattle.rules.specs.Sheets.{marks_in}
use Rattle.rules.proofs.MarkedNeeds.{length_marks}
use Rattle.phrases.specs.Readers.{marks_long}

-- the mark of a join
abbrev pub mark_of : Join → ℕ
mark_of ors = or_mark
mark_of ands = and_mark

-- a join's mark stands behind the marks of its operands
pub marks_join : (columns : List Spot) (j : Join) (u v : Formula)
    → marks_in columns (join_of j u v) ≡ marks_in columns u ++ (marks_in columns v ++ (mark_of j ∷ []))
unfolding marks_in
marks_join columns ors u v = refl
marks_join columns ands u v = refl

-- a join has the marks of its operands and one more
pub long_join : (columns : List Spot) (j : Join) (u v : Formula)
    → length (marks_in columns (join_of j u v)) ≡ length (marks_in columns u) + length (marks_in columns v) + 1
long_join columns j u v =
    omega (
      arith,
      ap length (marks_join columns j u v),
      length-append (marks_in columns u) (marks_in columns v ++ (mark_of j ∷ [])),
      length-append (marks_in columns v) (mark_of j ∷ []),
    )

-- a formula has a mark
pub marks_some : (v : Formula) → 0 < marks_long v
marks_some v = omega (arith, length_marks [] v)

-- the operands that are read have no more marks than the whole list
pub rest_long : {s : List ℕ} {j : Join} {deep p q : ℕ} {u w : Formula} → Stands s (rest j u) deep p q w → marks_long u ≤ marks_long w
rest_long (last n) = omega arith
rest_long (next {j} {u} {v} e a x) = omega (arith, rest_long x, long_join [] j u v)
