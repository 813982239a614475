-- A text of the form as lines of names: the columns, the forbid lines and the need lines, as walks over the text meet them. Assumes nothing.
use mathlib.Core.Path.{◌≡◌, refl}
use mathlib.Core.List.{List, map, map-id}
use Prim.Native.Nat.{ℕ, ◌+◌}
use Rattle.rules.specs.Signs.{byte_at, line_end, plus, forbid_key, need_key}
use Rattle.rules.specs.Names.{Spot, Names}
use Rattle.rules.specs.Phrases.{Formula, names_in, ors, list, most_brackets, Stands}
use Rattle.rules.specs.Texts.{Line, line, Lines, no_line, one_line, Sheet, OfForm}
use Rattle.naming.specs.Words.{Words, Rows, no_row, one_row, columns_from}
use Rattle.naming.proofs.PhraseNames.{names_between, phrase_between}

-- lines with a key are rows of the names that their values come to
lines_rows : {A : Type 0} {s key : List ℕ} {Value : ℕ → ℕ → A → Type 0} (names : A → List Spot)
    → ((p q : ℕ) (a : A) → Value p q a → byte_at s q ≡ line_end → Words s p q (names a))
    → {p q : ℕ} {lines : List (Line A)} → Lines s key Value p q lines
    → Rows s key p q (map (λ l. line l.place (names l.value)) lines)
lines_rows names words (no_line n) = no_row n
lines_rows names words (one_line {r} {a} says value e lines) = one_row says (words _ r a value e) (lines_rows names words lines)

-- names joined by a sign go to the line's end
names_words : (s : List ℕ) (p q : ℕ) (xs : List Spot) → Names s plus p q xs → byte_at s q ≡ line_end → Words s p q xs
names_words s p q xs names e = record { between = names_between names refl; ends = e }

-- so do the names of a phrase
phrase_words : (s : List ℕ) (p q : ℕ) (v : Formula) → Stands s (list ors) most_brackets p q v → byte_at s q ≡ line_end → Words s p q (names_in v)
phrase_words s p q v stands e = record { between = phrase_between stands; ends = e }

module _ {s : List ℕ} {sheet : Sheet} (form : OfForm s sheet) where
  -- the names of the columns stand behind their key
  pub laid_columns : Words s columns_from form.columns_to sheet.columns
  laid_columns = record { between = names_between form.columns refl; ends = form.columns_end }

  -- the forbid lines are rows of names
  pub laid_forbids : Rows s forbid_key (form.columns_to + 1) form.needs_from sheet.forbids
  laid_forbids = rw (map-id sheet.forbids) at (lines_rows (λ xs. xs) (names_words s) form.forbids)

  -- so are the need lines
  pub laid_needs : Rows s need_key form.needs_from form.end_from (map (λ l. line l.place (names_in l.value)) sheet.needs)
  laid_needs = lines_rows names_in (phrase_words s) form.needs
