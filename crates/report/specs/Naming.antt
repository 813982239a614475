-- The names that extract lines are made of.
use Rattle.std.specs.Prelude.{◌≡◌, Bool, true, false, ◌&&◌, List, [], ◌∷◌, ℕ, ◌≤◌, ltb, leb, length}
use Rattle.rules.specs.Lists.{every}
use Rattle.rules.specs.Sets.{most_columns}
use Rattle.rules.specs.Signs.{comma}
use Rattle.rules.specs.Names.{most_name_bytes}
use Rattle.writing.specs.Added.{Adds}
use Rattle.writing.specs.declared.Page.{Page}
use Rattle.text.specs.Tables.{name_table}

-- a table holds these names, as those of a text's columns are: few enough, each of 1 to 12 bytes, none of them 0
pub record Named (table : List ℕ) (names : List (List ℕ)) : Type 0 where
  pub held : table ≡ name_table names
  pub few : length names ≤ most_columns
  pub short : every (λ name. ltb 0 (length name) && leb (length name) most_name_bytes) names ≡ true
  pub nonzero : every (every (λ b. ltb 0 b)) names ≡ true

-- what parts a name from those before it, if it is not the first
abbrev pub parted : Bool → List ℕ
parted true = []
parted false = comma ∷ []

-- whatever names the table holds, the bytes that they make are put behind what the page held, and it is still the page that was lent
pub record PutsNamed (table : List ℕ) (more : List (List ℕ) → List ℕ) (before after : Page) : Type 0 where
  pub same_reference : after.places.ghost_name ≡ before.places.ghost_name
  pub adds : (names : List (List ℕ)) → Named table names → Adds (more names) before.end before.places.now after.end after.places.now
