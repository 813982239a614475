-- The needs laid out row by row: what stands in the rows after some of the marks. Assumes nothing.
use mathlib.Core.Path.{◌≡◌, refl, sym, ap, ◌∙◌}
use mathlib.Core.List.{List, [], ◌∷◌, map}
use Prim.Native.Nat.{ℕ, zero, suc, ◌+◌, ◌-◌, ◌≤◌, ◌<◌}
use native.Mathlib.Numerals.{add-one}
use native.Mathlib.Omega.{arith}
use lib.ListN.{length, get_or, set, take, drop, replicate, length-map, length-replicate, length-drop, drop_of_length-le}
use lib.Seq.{drop-cons, drop-drop, take_all}
use Rattle.rules.specs.Lists.{written}
use Rattle.rules.specs.Marks.{rows, before_end}
use Rattle.rules.proofs.Written.{get_d_written, written_more, written_full}
use Rattle.rules.proofs.Marks.{after_end, rows_first, before_part}
use Rattle.job.specs.Rows.{empty_row, row_of, rows_of}

row_at : (needs : List (List ℕ)) (k : ℕ) → k < length needs → get_or (map row_of needs) k [] ≡ row_of (get_or needs k [])
row_at [] k h = absurd (omega arith)
row_at (row ∷ needs) zero h = refl
row_at (row ∷ needs) (suc k) h = row_at needs k (omega arith)

pub row_laid : (needs : List (List ℕ)) (k : ℕ) → k < length needs → k < 8 → get_or (rows_of needs) k [] ≡ row_of (get_or needs k [])
unfolding rows_of
row_laid needs k h l =
    get_d_written (map row_of needs) (replicate 8 empty_row) k [] (rw length-map h) (rw length-replicate l) ∙ row_at needs k h

-- the rows after k needs, which end before the place from
pub record Laid (marks : List ℕ) (all : List (List ℕ)) (from k : ℕ) : Type 0 where
  are : all ≡ written (take k (map row_of (rows marks))) (replicate 8 empty_row)
  next : drop k (rows marks) ≡ rows (drop from marks)

pub laid_none : (marks : List ℕ) → Laid marks (replicate 8 empty_row) 0 0
unfolding written
laid_none marks = record { are = refl; next = refl }

module _ {marks : List ℕ} {all : List (List ℕ)} {from k : ℕ} (laid : Laid marks all from k) where
  pub laid_more : {to : ℕ} {row : List ℕ} → from < length marks → k < 8 → to ≡ from + length (before_end (drop from marks))
      → row ≡ row_of (take (to - from) (drop from marks)) → Laid marks (set all k row) (to + 1) (k + 1)
  laid_more {to} {row} h l e r =
      let needs = rows marks in
      let rest = drop from marks in
      let now = laid.next ∙ rows_first rest (omega (arith, length-drop from marks)) in
      let more : k < length needs = omega (arith, sym (length-drop k needs) ∙ ap length now) in
      let cons = sym (drop-cons needs k [] more) ∙ now in
      let here : get_or needs k [] ≡ before_end rest = cc in
      let later : drop (suc k) needs ≡ rows (after_end rest) = cc in
      let place : from + suc (length (before_end rest)) ≡ to + 1 = omega arith in
      record {
        are =
            rw (laid.are, r, before_part marks from to e, ← here, ← row_at needs k more)
            (written_more k (map row_of needs) (replicate 8 empty_row) [] (rw length-map more) (rw length-replicate l));
        next = rw (← place, ← drop-drop (suc (length (before_end rest))) from marks, add-one) later;
      }

  pub laid_full : 8 ≤ k → all ≡ rows_of (rows marks)
  unfolding rows_of
  laid_full h = laid.are ∙ written_full k (map row_of (rows marks)) (replicate 8 empty_row) (rw length-replicate h)

  pub laid_all : length marks ≤ from → all ≡ rows_of (rows marks)
  unfolding rows_of rows
  laid_all h =
      let ended : drop k (rows marks) ≡ [] = laid.next ∙ rw (drop_of_length-le marks h) in
      let past : length (rows marks) ≤ k = omega (arith, sym (length-drop k (rows marks)) ∙ ap length ended) in
      rw (← take_all k (map row_of (rows marks)) (rw length-map past)) laid.are
