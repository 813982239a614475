-- The set of a forbid line: the columns named. Assumes nothing.
use mathlib.Core.Path.{◌≡◌, refl, sym, ap, ◌∙◌}
use mathlib.Core.Bool.{Bool, true, ◌||◌, true≢false, or-false, or_assoc}
use mathlib.Core.List.{List, [], ◌∷◌}
use Prim.Native.Nat.{ℕ, ◌^◌, ◌≤◌, ◌<◌}
use native.Mathlib.Omega.{arith}
use lib.Dec.{eqb, ltb}
use lib.ListN.{length}
use lib.Pow.{pow-lt, pow_pos}
use borrow.Author.Tests.{eqb-true, eq-eqb, ltb-true}
use Rattle.rules.specs.Lists.{every, any_of}
use Rattle.rules.specs.Sets.{most_columns, has, empty, union}
use Rattle.rules.specs.Names.{Spot}
use Rattle.rules.specs.Sheets.{column_in, set_with}
use Rattle.rules.proofs.Lists.{and_parts, or_left, same_test}
use Rattle.rules.proofs.SetBits.{has_empty}
use Rattle.rules.proofs.Sets.{has_union, union_within}
use Rattle.rules.proofs.SetColumns.{has_own, has_only}
use Rattle.rules.proofs.MarkedNeeds.{columns_below}

has_one : (k i : ℕ) → has i (2 ^ k) ≡ eqb k i
has_one k i =
    same_test (has i (2 ^ k)) (eqb k i) (λ h. eq-eqb k i (sym (has_only k i h)))
    (λ e. ap (λ (j : ℕ). has j (2 ^ k)) (sym (eqb-true k i e)) ∙ has_own k)

set_with_lem : (columns : List Spot) (s : ℕ) (names : List Spot) (i : ℕ) → i < most_columns
    → has i (set_with columns s names) ≡ (has i s || any_of (λ x. eqb (column_in columns x) i) names)
unfolding set_with any_of
set_with_lem columns s [] i l = sym (or-false (has i s))
set_with_lem columns s (x ∷ names) i l =
    set_with_lem columns (union s (2 ^ column_in columns x)) names i l
    ∙ ap (λ (b : Bool). b || any_of (λ x. eqb (column_in columns x) i) names) (has_union s (2 ^ column_in columns x) i l)
    ∙ ap (λ (b : Bool). has i s || b || any_of (λ x. eqb (column_in columns x) i) names) (has_one (column_in columns x) i)
    ∙ or_assoc (has i s) (eqb (column_in columns x) i) (any_of (λ x. eqb (column_in columns x) i) names)

-- the set of a forbid line has exactly the columns named
pub set_has : (columns names : List Spot) (i : ℕ) → i < most_columns
    → has i (set_with columns empty names) ≡ any_of (λ x. eqb (column_in columns x) i) names
set_has columns names i l =
    set_with_lem columns empty names i l ∙ ap (λ (b : Bool). b || any_of (λ x. eqb (column_in columns x) i) names) (has_empty i)

within_with : (columns : List Spot) (n s : ℕ) (names : List Spot) → n ≤ most_columns → s < 2 ^ n → columns_below columns n names ≡ true
    → set_with columns s names < 2 ^ n
unfolding set_with every
within_with columns n s [] most l h = l
within_with columns n s (x ∷ names) most l h =
    let below = and_parts (ltb (column_in columns x) n) (columns_below columns n names) h in
    within_with columns n (union s (2 ^ column_in columns x)) names most
    (union_within n s (2 ^ column_in columns x) most l (pow-lt (ltb-true (column_in columns x) n below.0))) below.1

-- it is within the columns
pub set_within : (columns : List Spot) (n : ℕ) (names : List Spot) → n ≤ most_columns → columns_below columns n names ≡ true
    → set_with columns empty names < 2 ^ n
set_within columns n names most h = within_with columns n empty names most (pow_pos n) h

-- it is not empty
pub set_some : (columns names : List Spot) → 0 < length names → columns_below columns most_columns names ≡ true
    → set_with columns empty names ≡ 0 → ⊥
unfolding any_of every
set_some columns [] l h e = omega arith
set_some columns (x ∷ names) l h e =
    let below = and_parts (ltb (column_in columns x) most_columns) (columns_below columns most_columns names) h in
    let i = column_in columns x in
    true≢false
    (sym (or_left (eqb i i) (any_of (λ y. eqb (column_in columns y) i) names) (eq-eqb i i refl))
    ∙ sym (set_has columns (x ∷ names) i (ltb-true i most_columns below.0)) ∙ ap (has i) e ∙ has_empty i)
