-- The forbidden sets written line after line. Assumes nothing.
use mathlib.Core.Path.{◌≡◌, refl, sym, ap, ◌∙◌}
use mathlib.Core.List.{List, [], ◌∷◌, ◌++◌, map, map-append, append_assoc, append-nil}
use Prim.Native.Nat.{ℕ, ◌+◌, ◌≤◌, ◌<◌}
use native.Mathlib.Omega.{arith}
use lib.ListN.{length, set, take, length-append}
use Rattle.rules.specs.Sets.{empty}
use Rattle.rules.specs.Options.{None}
use Rattle.rules.specs.Signs.{forbid_key}
use Rattle.rules.specs.Names.{Spot}
use Rattle.rules.specs.Texts.{Line, line}
use Rattle.rules.specs.Sheets.{set_with}
use Rattle.naming.specs.Words.{Words, Rows}
use Rattle.naming.proofs.Sought.{none_left}
use Rattle.naming.specs.declared.sections.Section.TheVariants.{Forbid}
use Rattle.faults.specs.Walks.{LinesFrom, PassesLine, GivesLine}
use Rattle.faults.specs.declared.walks.Lines.{Lines}
use Rattle.faults.proofs.Left.{RowsLeft, rows_start, row_next, row_end}
use Rattle.phrases.proofs.Turns.{take_set}
use Rattle.text.specs.Built.{SetsWritten}

-- so many lines are read, and their sets stand in the first places
pub record SetsLaid (columns : List Spot) (rows : List (Line (List Spot))) (count : ℕ) (sets : List ℕ) (left : List (Line (List Spot))) : Type 0 where
  pub done : List (Line (List Spot))
  pub whole : rows ≡ done ++ left
  pub many : count ≡ length done
  pub laid : take count sets ≡ map (λ l. set_with columns empty l.value) done

abbrev pub SetsLeft : List ℕ → List Spot → List (Line (List Spot)) → Lines → ℕ → ℕ → List ℕ → Type 0
SetsLeft s columns rows walk q count sets = RowsLeft s Forbid walk q (SetsLaid columns rows count sets)

module _ {s : List ℕ} {columns : List Spot} {rows : List (Line (List Spot))} {q : ℕ} where
  -- before the first line
  pub sets_none : {from : ℕ} {walk : Lines} (sets : List ℕ) → LinesFrom s Forbid from walk → Rows s forbid_key from q rows
      → SetsLeft s columns rows walk q 0 sets
  sets_none sets f are = rows_start f are (record { done = []; whole = refl; many = refl; laid = refl })

  module _ {walk : Lines} {count : ℕ} {sets : List ℕ} (l : SetsLeft s columns rows walk q count sets) where
    -- one line more
    pub sets_more : {p bits : ℕ} {next : Lines} → PassesLine walk p next → count < length sets
        → ((r : ℕ) (names : List Spot) → Words s (p + length forbid_key) r names → bits ≡ set_with columns empty names)
        → SetsLeft s columns rows next q (count + 1) (set sets count bits)
    sets_more {p} {bits} step room is = row_next l step more
      where
        more : (r : ℕ) (names : List Spot) (later : List (Line (List Spot))) → Words s (p + length forbid_key) r names
            → SetsLaid columns rows count sets (line p names ∷ later) → SetsLaid columns rows (count + 1) (set sets count bits) later
        more r names later w k =
            let x : Line (List Spot) = line p names in
            record {
              done = k.done ++ (x ∷ []);
              whole = k.whole ∙ sym (append_assoc k.done (x ∷ []) later);
              many = omega (arith, k.many, length-append k.done (x ∷ []));
              laid =
                  take_set sets count bits room
                  ∙ ap (λ (b : ℕ). take count sets ++ (b ∷ [])) (is r names w)
                  ∙ ap (λ (t : List ℕ). t ++ (set_with columns empty names ∷ [])) k.laid
                  ∙ sym (map-append (λ (y : Line (List Spot)). set_with columns empty y.value) k.done (x ∷ []));
            }

    sets_all : SetsLaid columns rows count sets [] → SetsWritten columns rows count sets
    sets_all k = rw (k.whole ∙ append-nil k.done) (record { many = k.many; sets = k.laid })

    -- where no forbid line is left all sets stand
    pub sets_end : {next : Lines} → GivesLine walk None next → SetsWritten columns rows count sets
    sets_end k = sets_all (row_end l k).1

    -- nor can there be more lines than places
    pub sets_full : {room : ℕ} → room ≤ count → length rows ≤ room → SetsWritten columns rows count sets
    sets_full h few =
        let k = l.known in
        let none : l.later ≡ [] = none_left l.later (omega (arith, k.many, ap length k.whole, length-append k.done l.later)) in
        sets_all (rw none at k)
