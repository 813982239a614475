-- Which faults a text of the form has, as sentences in the words of 01's table: rows 3 to 6.
use Rattle.std.specs.Prelude.{◌≡◌, ◌⊎◌, true, ℕ, ◌<◌, ◌≤◌, drop}
use mathlib.Core.List.{List, ◌∷◌, ◌++◌, Memᴰ}
use Rattle.rules.specs.Sets.{most_columns}
use Rattle.rules.specs.Numbers.{most_forbidden, most_needs, most_column_marks}
use Rattle.rules.specs.Refusals.{too_many_parts, name_twice, name_unknown, end_number_other}
use Rattle.rules.specs.Names.{Spot, same_name}
use Rattle.rules.specs.Phrases.{Formula, names_in}
use Rattle.rules.specs.Texts.{Line, Sheet}
use Rattle.rules.specs.Sheets.{Refusal, refusal, lines_in}

-- "17th column, 33rd forbid, 9th need line, 33rd name in a need", or a later one: its place
pub data IsOver (sheet : Sheet) : ℕ → Type 0 where
  column_over : {x : Spot} → Memᴰ x (drop most_columns sheet.columns) → IsOver sheet x.place
  forbid_over : {l : Line (List Spot)} → Memᴰ l (drop most_forbidden sheet.forbids) → IsOver sheet l.place
  need_over : {l : Line Formula} → Memᴰ l (drop most_needs sheet.needs) → IsOver sheet l.place
  name_over : {l : Line Formula} {x : Spot} → Memᴰ l sheet.needs → Memᴰ x (drop most_column_marks (names_in l.value))
      → IsOver sheet x.place

-- the name stands among these
pub record Among (names : List Spot) (x : Spot) : Type 0 where
  pub one : Spot
  pub stands : Memᴰ one names
  pub same : same_name one.name x.name ≡ true

-- 4: "a name twice in columns=, or a known name twice in one forbid", at the later one; 5: "a name in forbid or need that isn't a column"
pub data IsFault (sheet : Sheet) : Refusal → Type 0 where
  column_twice : (before after : List Spot) {x : Spot} → sheet.columns ≡ before ++ (x ∷ after) → Among before x
      → IsFault sheet (refusal name_twice x.place)
  forbid_unknown : {l : Line (List Spot)} {x : Spot} → Memᴰ l sheet.forbids → Memᴰ x l.value → (Among sheet.columns x → ⊥)
      → IsFault sheet (refusal name_unknown x.place)
  forbid_twice : {l : Line (List Spot)} (before after : List Spot) {x : Spot} → Memᴰ l sheet.forbids → l.value ≡ before ++ (x ∷ after)
      → Among sheet.columns x → Among before x → IsFault sheet (refusal name_twice x.place)
  need_unknown : {l : Line Formula} {x : Spot} → Memᴰ l sheet.needs → Memᴰ x (names_in l.value) → (Among sheet.columns x → ⊥)
      → IsFault sheet (refusal name_unknown x.place)

-- nothing is too many, no name is at fault, and the end line has the number of lines
pub record IsRight (sheet : Sheet) : Type 0 where
  pub counts : (p : ℕ) → IsOver sheet p → ⊥
  pub names : (f : Refusal) → IsFault sheet f → ⊥
  pub end : sheet.ended.value ≡ lines_in sheet

-- 3 at the smallest place of something too many; else 4 or 5 at the name at fault with the smallest place; else 6 at the end line's number
pub data HasFault (sheet : Sheet) : Refusal → Type 0 where
  too_many : {p : ℕ} → IsOver sheet p → ((q : ℕ) → IsOver sheet q → p ≤ q) → HasFault sheet (refusal too_many_parts p)
  name_wrong : {f : Refusal} → ((q : ℕ) → IsOver sheet q → ⊥) → IsFault sheet f
      → ((g : Refusal) → IsFault sheet g → (f ≡ g) ⊎ (f.place < g.place)) → HasFault sheet f
  end_wrong : ((q : ℕ) → IsOver sheet q → ⊥) → ((g : Refusal) → IsFault sheet g → ⊥) → (sheet.ended.value ≡ lines_in sheet → ⊥)
      → HasFault sheet (refusal end_number_other sheet.ended.place)
