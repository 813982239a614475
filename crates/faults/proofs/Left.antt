-- Walks over lines and over the names of a line, with what is known of those that are left. Assumes nothing.
use mathlib.Core.Path.{◌≡◌, refl, ◌∙◌}
use mathlib.Core.Bool.{true, false, true≢false, false≢true}
use mathlib.Core.List.{List, [], ◌∷◌, ◌++◌}
use Prim.Native.Nat.{ℕ, zero, suc, ◌+◌, ◌-◌, ◌<◌, ◌≤◌}
use native.Mathlib.Omega.{arith}
use Rattle.rules.specs.Signs.{byte_at, Says}
use Rattle.rules.specs.Options.{Option, None, Some}
use Rattle.std.specs.Option.{is_some}
use Rattle.rules.specs.Names.{Spot, spot, Name}
use Rattle.rules.specs.Texts.{Line, line}
use Rattle.naming.specs.Words.{is_sign, Skips, Between, nothing, sign, word, Words, Rows, no_row, one_row}
use Rattle.naming.specs.Sections.{key_of, width_of}
use Rattle.naming.specs.declared.sections.Section.{Section}
use Rattle.naming.proofs.Walks.{between_append, Ahead, ahead_start, ahead_turn, ahead_end}
use Rattle.faults.specs.Walks.{NamesFrom, PassesName, GivesName, LinesFrom, PassesLine, GivesLine}
use Rattle.faults.specs.declared.walks.Names.{Names}
use Rattle.faults.specs.declared.walks.Lines.{Lines}

-- ---- lines

-- of the lines to place q those that a walk comes to are left, and this is known of them
pub record RowsLeft (s : List ℕ) (kind : Section) (walk : Lines) (q : ℕ) (P : List (Line (List Spot)) → Type 0) : Type 0 where
  pub text : walk.text.now ≡ s
  pub section : walk.section ≡ kind
  pub later : List (Line (List Spot))
  pub rows : Rows s (key_of kind) walk.place q later
  pub known : P later

module _ {s : List ℕ} {kind : Section} {walk : Lines} {q : ℕ} {P : List (Line (List Spot)) → Type 0} where
  -- at first all are left
  pub rows_start : {from : ℕ} {rows : List (Line (List Spot))} → LinesFrom s kind from walk → Rows s (key_of kind) from q rows → P rows
      → RowsLeft s kind walk q P
  rows_start {rows} f r p = record { text = f.text; section = f.section; later = rows; rows = rw f.place r; known = p }

  module _ (left : RowsLeft s kind walk q P) where
    -- a line is one of the text
    row_says : {p : ℕ} {next : Lines} → PassesLine walk p next → Says s p (key_of kind)
    row_says k = rw (k.here, ← left.text, ← left.section) k.says

    row_ends : {p : ℕ} {next : Lines} → PassesLine walk p next → (r : ℕ) (names : List Spot) → Words s (p + width_of kind) r names → next.place ≡ r + 1
    row_ends k r names words = k.ends r names (rw (left.text, left.section, ← k.here) words)

    row_none : {next : Lines} → GivesLine walk None next → Says s walk.place (key_of kind) → ⊥
    row_none k says = k.0 (rw (left.text, left.section) says)

    -- where the walk passes a line one is left
    pub row_here : {p : ℕ} {next : Lines} → PassesLine walk p next
        → (r : ℕ) × (names : List Spot) × (later : List (Line (List Spot))) × Words s (p + width_of kind) r names × P (line p names ∷ later)
    row_here {p} {next} k = go left.rows k.here left.known
      where
        go : {m to : ℕ} {rows : List (Line (List Spot))} → Rows s (key_of kind) m to rows → p ≡ m → P rows
            → (r : ℕ) × (names : List Spot) × (later : List (Line (List Spot))) × Words s (p + width_of kind) r names × P (line p names ∷ later)
        go (no_row n) e known = absurd (n (rw (← e) (row_says k)))
        go (one_row {r} {names} {rows} f words later) e known = (r, names, rows, rw e words, rw e known)

    -- behind it the others are left
    pub row_next : {p : ℕ} {next : Lines} {Q : List (Line (List Spot)) → Type 0} → PassesLine walk p next
        → ((r : ℕ) (names : List Spot) (later : List (Line (List Spot))) → Words s (p + width_of kind) r names → P (line p names ∷ later) → Q later)
        → RowsLeft s kind next q Q
    row_next {p} {next} {Q} k step = go left.rows k.here left.known
      where
        go : {m to : ℕ} {rows : List (Line (List Spot))} → Rows s (key_of kind) m to rows → p ≡ m → P rows → RowsLeft s kind next to Q
        go (no_row n) e known = absurd (n (rw (← e) (row_says k)))
        go (one_row {r} {names} {rows} f words later) e known =
            record {
              text = k.text ∙ left.text;
              section = k.section ∙ left.section;
              later = rows;
              rows = rw (row_ends k r names (rw e words)) later;
              known = step r names rows (rw e words) (rw e known);
            }

    -- where it passes none no line is left, and the walk stands behind them
    pub row_end : {next : Lines} → GivesLine walk None next → (walk.place ≡ q) × P []
    row_end k = go left.rows refl left.known
      where
        go : {m to : ℕ} {rows : List (Line (List Spot))} → Rows s (key_of kind) m to rows → walk.place ≡ m → P rows → (walk.place ≡ to) × P []
        go (no_row n) e known = (e, known)
        go (one_row f words later) e known = absurd (row_none k (rw e f))

-- what a walk gives that is asked whether there is a line
pub asked_some : {walk next : Lines} (r : Option ℕ) → true ≡ is_some r → GivesLine walk r next → (p : ℕ) × PassesLine walk p next
asked_some None e k = absurd (true≢false e)
asked_some (Some p) e k = (p, k)

pub asked_none : {walk next : Lines} (r : Option ℕ) → false ≡ is_some r → GivesLine walk r next → GivesLine walk None next
asked_none None e k = k
asked_none (Some p) e k = absurd (false≢true e)

-- ---- names

-- of the names to the line's end at place q those that a walk comes to are left, and this is known of them
pub record NamesLeft (s : List ℕ) (walk : Names) (q : ℕ) (P : List Spot → Type 0) : Type 0 where
  pub text : walk.text.now ≡ s
  pub later : List Spot
  pub ahead : Ahead s walk.place q later
  pub known : P later

module _ {s : List ℕ} {walk : Names} {q : ℕ} {P : List Spot → Type 0} where
  -- at first all are left
  pub names_start : {from : ℕ} {names : List Spot} → NamesFrom s from walk → Words s from q names → P names → NamesLeft s walk q P
  names_start {names} f w p = record { text = f.text; later = names; ahead = ahead_start w f.place; known = p }

  module _ (left : NamesLeft s walk q P) where
    -- where the walk passes a name one is left
    pub name_here : {p : ℕ} {next : Names} → PassesName walk p next → (r : ℕ) × (later : List Spot) × Name s p r × P (spot s p r ∷ later)
    name_here k =
        let t = ahead_turn left.ahead (rw left.text at k.named) (rw left.text at k.run) (rw left.text at k.skips) in
        (k.to, t.later, rw k.here t.name, rw k.here (rw t.same at left.known))

    -- behind it the others are left
    pub name_next : {p : ℕ} {next : Names} {Q : List Spot → Type 0} → PassesName walk p next
        → ((r : ℕ) (later : List Spot) → Name s p r → Skips s r next.place → P (spot s p r ∷ later) → Q later) → NamesLeft s next q Q
    name_next k step =
        let skips = rw left.text at k.skips in
        let t = ahead_turn left.ahead (rw left.text at k.named) (rw left.text at k.run) skips in
        record {
          text = k.text ∙ left.text;
          later = t.later;
          ahead = t.ahead;
          known = step k.to t.later (rw k.here t.name) skips (rw k.here (rw t.same at left.known));
        }

    -- where it passes none no name is left
    pub name_last : {next : Names} → GivesName walk None next → P []
    name_last k = rw (ahead_end left.ahead (rw left.text at k.0)).1 at left.known

-- ---- the names before

-- past signs there is no name
signs_between : {s : List ℕ} (k : ℕ) {p q : ℕ} → q ≡ p + k → ((i : ℕ) → p ≤ i → i < q → is_sign (byte_at s i) ≡ true) → Between s p q []
signs_between zero {p} {q} e signs = let f : q ≡ p = omega arith in rw f nothing
signs_between {s} (suc k) {p} {q} e signs =
    let f : q ≡ p + 1 + k = omega arith in
    sign (signs p (omega arith) (omega arith)) (signs_between k f (λ i l h. signs i (omega arith) h))

-- from the line's first place past the signs to the first name there is none
pub skips_nothing : {s : List ℕ} {p q : ℕ} → Skips s p q → Between s p q []
skips_nothing {s} {p} {q} k = signs_between (q - p) (omega (arith, k.forward)) k.signs

-- a name and the signs behind it
pub name_between : {s : List ℕ} {from p r q : ℕ} {before : List Spot} → Between s from p before → Name s p r → Skips s r q
    → Between s from q (before ++ (spot s p r ∷ []))
name_between b n k = between_append b (word n (skips_nothing k))

-- the names before a place are those before the place that it is
pub between_at : {s : List ℕ} {from p m : ℕ} {before : List Spot} → p ≡ m → Between s from m before → Between s from p before
between_at e b = rw e b
