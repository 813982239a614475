-- What the program writes: the page of what a job text comes to.
use Rattle.std.specs.Prelude.{List, [], ◌∷◌, ◌++◌, map, ℕ, length, get_or, replicate}
use Rattle.rules.specs.Sets.{members}
use Rattle.rules.specs.Signs.{bytes, comma}
use Rattle.rules.specs.Words.{decimal, keyed_line}
use Rattle.rules.specs.Readings.{Reading, refused as unread, taken}
use Rattle.rules.specs.Plannings.{Planning, refused as unplanned, planned, planning, plan_room}

-- a refusal's number and place, or the names of the columns and the planner's split
pub data Outcome : Type 0 where
  refused : ℕ → ℕ → Outcome
  released : List (List ℕ) → List ℕ → Outcome

-- of a job whose columns have these names; the place of a refusal that comes with planning is 0
unfoldable pub planned_with : List (List ℕ) → Planning → Outcome
planned_with names (unplanned number) = refused number 0
planned_with names (planned split) = released names split

-- of a text, by what it reads as; its job is planned with room for the extracts
unfoldable pub outcome_of : Reading → Outcome
outcome_of (unread number place) = refused number place
outcome_of (taken q names) = planned_with names (planning q (replicate plan_room 0))

-- each name behind a comma
unfoldable pub behind_commas : List (List ℕ) → List ℕ
behind_commas [] = []
behind_commas (name ∷ names) = comma ∷ (name ++ behind_commas names)

-- names joined by commas
unfoldable pub joined_names : List (List ℕ) → List ℕ
joined_names [] = []
joined_names (name ∷ names) = name ++ behind_commas names

-- the names of these columns
unfoldable pub names_at : List (List ℕ) → List ℕ → List (List ℕ)
names_at names columns = map (λ i. get_or names i []) columns

-- "then k lines in rising order of number, names in column order"; that the planner's split rises is a part of what it is
unfoldable pub extract_lines : List (List ℕ) → List ℕ → List ℕ
extract_lines names [] = []
extract_lines names (s ∷ split) = keyed_line "extract=" (joined_names (names_at names (members s))) ++ extract_lines names split

-- "`extracts` is k; then k lines"; "A refusal is written as `result=refused`, `number=`, `place=`, one line each."
unfoldable pub page : Outcome → List ℕ
page (refused number place) = keyed_line "result=" (bytes "refused") ++ (keyed_line "number=" (decimal number) ++ keyed_line "place=" (decimal place))
page (released names split) =
    keyed_line "result=" (bytes "split") ++ (keyed_line "extracts=" (decimal (length split)) ++ extract_lines names split)

-- as many bytes as the longest page has: eight extracts, in them sixteen columns, all with names of 12 bytes
abbrev pub most_page_bytes : ℕ
most_page_bytes = 296
