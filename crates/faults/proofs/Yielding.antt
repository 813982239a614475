-- What the walks give: the places of a line's names, and those of a section's lines. Assumes nothing.
use mathlib.Core.Path.{◌≡◌, refl, sym, ap, ◌∙◌}
use mathlib.Core.List.{List, [], ◌∷◌, map}
use Prim.Native.Nat.{ℕ, zero, suc}
use native.Mathlib.Omega.{arith}
use lib.ListN.{length, drop}
use Rattle.std.specs.Iterator.{AlwaysYields, SkipsThenYields}
use Rattle.std.specs.List.{slice_get}
use Rattle.std.proofs.lemmas.Iterator.{YieldsList}
use Rattle.std.proofs.lemmas.Iterator.Adapters.{option_map_id}
use Rattle.std.proofs.lemmas.Iterator.Consumers.{nth_from_yields_List}
use Rattle.rules.specs.Options.{Option, option_map}
use Rattle.rules.specs.Lists.{first_of}
use Rattle.rules.specs.Names.{Spot}
use Rattle.rules.specs.Texts.{Line}
use Rattle.rules.specs.Sheets.{name_after, line_after}
use Rattle.naming.specs.Words.{Words, Rows, no_row, one_row}
use Rattle.naming.specs.Sections.{key_of}
use Rattle.naming.specs.declared.sections.Section.{Section}
use Rattle.naming.proofs.Walks.{Ahead, ahead_start, ahead_turn, ahead_end}
use Rattle.faults.specs.Walks.{NamesFrom, GivesName, LinesFrom, GivesLine}
use Rattle.faults.specs.declared.walks.Names.{Names}
use Rattle.faults.specs.declared.walks.Lines.{Lines}

-- ---- names

abbrev head_of : {A : Type 0} → A → List A → A
head_of a [] = a
head_of a (x ∷ xs) = x

abbrev tail_of : {A : Type 0} → List A → List A
tail_of [] = []
tail_of (x ∷ xs) = xs

some_not_none : {A C : Type 0} {x : A} {xs : List A} → [] ≡ x ∷ xs → C
some_not_none {A} {C} e = absurd (omega (arith, ap (λ (l : List A). length l) e))

names_given : {q : ℕ} (names : List Spot) (walk : Names) → Ahead walk.text.now walk.place q names
    → AlwaysYields GivesName (λ x. x) walk (map (λ x. x.place) names)
names_given [] walk a = λ p next k. some_not_none (ahead_turn a k.named k.run k.skips).same
names_given {q} (x ∷ names) walk a = (
  λ next k. some_not_none (sym (ahead_end a k.0).1),
  λ p next k.
      let t = ahead_turn a k.named k.run k.skips in
      let later : t.later ≡ names = sym (ap tail_of t.same) in
      (k.here ∙ sym (ap (λ (xs : List Spot). (head_of x xs).place) t.same), names_given {q = q} names next (rw (k.text, ← later) t.ahead)),
)

-- the walk over a line's names gives the place of each
pub names_yield : {s : List ℕ} {from q : ℕ} {names : List Spot} {walk : Names} → NamesFrom s from walk → Words s from q names
    → YieldsList GivesName (λ x. x) walk (map (λ x. x.place) names)
names_yield {q} {names} {walk} f w = record { runs = names_given {q = q} names walk (rw f.text (ahead_start w f.place)) }

-- ---- lines

lines_given : {q : ℕ} (rows : List (Line (List Spot))) (walk : Lines) → Rows walk.text.now (key_of walk.section) walk.place q rows
    → AlwaysYields GivesLine (λ x. x) walk (map (λ l. l.place) rows)
lines_given {q} [] walk (no_row n) = λ p next k. absurd (n k.says)
lines_given {q} (l ∷ later) walk (one_row {r} {names} says words others) = (
  λ next k. k.0 says,
  λ p next k. (k.here, lines_given {q = q} later next (rw (k.text, k.section, k.ends r names words) others)),
)

-- the walk over a section's lines gives the place of each
pub lines_yield : {s : List ℕ} {section : Section} {from q : ℕ} {rows : List (Line (List Spot))} {walk : Lines} → LinesFrom s section from walk
    → Rows s (key_of section) from q rows → YieldsList GivesLine (λ x. x) walk (map (λ l. l.place) rows)
lines_yield {q} {rows} {walk} f r = record { runs = lines_given {q = q} rows walk (rw (f.text, f.section, f.place) r) }

-- ---- the item at a place

-- what a function gives of the item behind the first k
pub slice_get_map_first : {A B : Type 0} (f : A → B) (k : ℕ) (xs : List A) → slice_get (map f xs) k ≡ option_map f (first_of (drop k xs))
unfolding first_of
slice_get_map_first f zero [] = refl
slice_get_map_first f zero (x ∷ xs) = refl
slice_get_map_first f (suc k) [] = refl
slice_get_map_first f (suc k) (x ∷ xs) = slice_get_map_first f k xs

-- the name behind the first k
pub nth_name : {s : List ℕ} {from q : ℕ} (k : ℕ) {names : List Spot} {walk : Names} (next : Names) {r : Option ℕ} → NamesFrom s from walk → Words s from q names
    → SkipsThenYields GivesName walk k r next → r ≡ name_after k names
unfolding name_after
nth_name k {names} next {r} f w ran =
    sym (option_map_id r) ∙ nth_from_yields_List r next k ran (names_yield f w) ∙ slice_get_map_first (λ x. x.place) k names

-- the line behind the first k
pub nth_line : {s : List ℕ} {section : Section} {from q : ℕ} (k : ℕ) {rows : List (Line (List Spot))} {walk : Lines} (next : Lines)
    {r : Option ℕ}
    → LinesFrom s section from walk → Rows s (key_of section) from q rows → SkipsThenYields GivesLine walk k r next → r ≡ line_after k rows
unfolding line_after
nth_line k {rows} next {r} f are ran =
    sym (option_map_id r) ∙ nth_from_yields_List r next k ran (lines_yield f are) ∙ slice_get_map_first (λ l. l.place) k rows
