-- The set of a forbid line, gathered name after name. Assumes nothing.
use mathlib.Core.Path.{◌≡◌, ap, ◌∙◌}
use mathlib.Core.List.{List, [], ◌∷◌}
use Prim.Native.Nat.{ℕ, ◌^◌}
use Rattle.rules.specs.Sets.{union}
use Rattle.rules.specs.Names.{Spot}
use Rattle.rules.specs.Sheets.{column_in, set_with}

module _ (columns : List Spot) (set : ℕ) {all : ℕ} where
  -- with the column of one name more the set is the line's when those of the names left are in it
  pub gathered_more : (x : Spot) (later : List Spot) {column : ℕ} → column ≡ column_in columns x → set_with columns set (x ∷ later) ≡ all
      → set_with columns (union set (2 ^ column)) later ≡ all
  unfolding set_with
  gathered_more x later is same = ap (λ (c : ℕ). set_with columns (union set (2 ^ c)) later) is ∙ same

  -- where no name is left the line is read
  pub gathered_end : set_with columns set [] ≡ all → set ≡ all
  unfolding set_with
  gathered_end same = same
