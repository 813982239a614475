-- The marks of need lines, laid behind one another line after line. Assumes nothing.
use mathlib.Core.Path.{◌≡◌, refl, sym, ap, ◌∙◌}
use mathlib.Core.List.{List, [], ◌∷◌, ◌++◌, append_assoc, append-nil}
use Prim.Native.Nat.{ℕ, ◌+◌, ◌≤◌, ◌<◌}
use native.Mathlib.Omega.{arith}
use lib.ListN.{length, set, take, length-append, length-set}
use Rattle.rules.specs.Sets.{most_columns}
use Rattle.rules.specs.Marks.{end_mark}
use Rattle.rules.specs.Signs.{byte_at, Says, need_key, line_end}
use Rattle.rules.specs.Names.{Spot}
use Rattle.rules.specs.Phrases.{Formula, ors, list, most_brackets, Stands}
use Rattle.rules.specs.Texts.{Line, line, no_line, one_line}
use Rattle.rules.specs.Sheets.{marks_in, marks_of}
use Rattle.rules.proofs.Signs.{inside}
use Rattle.rules.proofs.Phrases.{phrase_unique, phrase_moves}
use Rattle.rules.proofs.Texts.{lines_unique}
use Rattle.naming.specs.Words.{Words, columns_from}
use Rattle.phrases.specs.declared.Read.{Read}
use Rattle.phrases.specs.Readers.{marks_long, Readable, Wrote, Marked}
use Rattle.phrases.proofs.Turns.{take_set}
use Rattle.text.specs.Built.{NeedLines, Markable, MarksWritten}

marks_append : (columns : List Spot) (xs ys : List (Line Formula)) → marks_of columns (xs ++ ys) ≡ marks_of columns xs ++ marks_of columns ys
unfolding marks_of
marks_append columns [] ys = refl
marks_append columns (l ∷ xs) ys =
    ap (λ (m : List ℕ). marks_in columns l.value ++ (end_mark ∷ m)) (marks_append columns xs ys)
    ∙ sym (append_assoc (marks_in columns l.value) (end_mark ∷ marks_of columns xs) (marks_of columns ys))

-- the marks of one line
marks_one : (columns : List Spot) (l : Line Formula) → marks_of columns (l ∷ []) ≡ marks_in columns l.value ++ (end_mark ∷ [])
unfolding marks_of
marks_one columns l = refl

-- a need line, and the lines behind it
record NeedLine (s : List ℕ) (p q : ℕ) (lines : List (Line Formula)) : Type 0 where
  says : Formula
  ends : ℕ
  later : List (Line Formula)
  same : lines ≡ line p says ∷ later
  stands : Stands s (list ors) most_brackets (p + length need_key) ends says
  ended : byte_at s ends ≡ line_end
  others : NeedLines s (ends + 1) q later

-- where a need line begins
need_here : {s : List ℕ} {p q : ℕ} {lines : List (Line Formula)} → NeedLines s p q lines → Says s p need_key → NeedLine s p q lines
need_here (no_line n) e = absurd (n e)
need_here (one_line {r} {a} {lines} said stands ended later) e =
    record { says = a; ends = r; later = lines; same = refl; stands = stands; ended = ended; others = later }

-- where none begins there is none
need_over : {s : List ℕ} {p q : ℕ} {lines : List (Line Formula)} → NeedLines s p q lines → (Says s p need_key → ⊥) → lines ≡ []
need_over (no_line n) f = refl
need_over (one_line said stands ended later) f = absurd (f said)

-- the need lines before this place are read, and their marks stand; there is room for those of all lines
pub record Laying (s : List ℕ) (from place count : ℕ) (marks : List ℕ) : Type 0 where
  pub to : ℕ
  pub lines : List (Line Formula)
  pub done : List (Line Formula)
  pub left : List (Line Formula)
  pub begun : NeedLines s from to lines
  pub whole : lines ≡ done ++ left
  pub ahead : NeedLines s place to left
  pub many : count ≡ length (marks_of [] done)
  pub fits : length (marks_of [] lines) ≤ length marks
  pub laid : (q : ℕ) (columns : List Spot) → Words s columns_from q columns → length columns ≤ most_columns → take count marks ≡ marks_of columns done

-- before the first line
pub laying_none : {s : List ℕ} {from : ℕ} {marks : List ℕ} → Markable s from (length marks) → Laying s from from 0 marks
unfolding marks_of
laying_none m =
    record {
      to = m.to;
      lines = m.lines;
      done = [];
      left = m.lines;
      begun = m.stands;
      whole = refl;
      ahead = m.stands;
      many = refl;
      fits = m.fits;
      laid = λ q columns w few. refl;
    }

module _ {s : List ℕ} {from place count : ℕ} {marks : List ℕ} (l : Laying s from place count marks) where
  module _ (e : Says s place need_key) where
    here : NeedLine s place l.to l.left
    here = need_here l.ahead e

    -- there is room for this line's marks and its end mark
    fits_here : count + marks_long here.says + 1 ≤ length marks
    unfolding marks_of
    fits_here =
        let parts : marks_of [] l.lines ≡ marks_of [] l.done ++ marks_of [] l.left
        = ap (marks_of []) l.whole ∙ marks_append [] l.done l.left in
        let first : marks_of [] l.left ≡ marks_in [] here.says ++ (end_mark ∷ marks_of [] here.later) = ap (marks_of []) here.same in
        omega (
          arith,
          l.fits,
          l.many,
          ap length parts,
          length-append (marks_of [] l.done) (marks_of [] l.left),
          ap length first,
          length-append (marks_in [] here.says) (end_mark ∷ marks_of [] here.later),
        )

    -- the reader may be called
    pub laying_asks : Readable s (list ors) (place + length need_key) count (length marks)
    laying_asks =
        record { deep = most_brackets; to = here.ends; formula = here.says; stands = here.stands; fits = omega (arith, fits_here) }

    module _ {r : Read} {new : List ℕ} {before : ℕ} (width : before ≡ length need_key) (read : Marked s (list ors) (place + before) count marks r new)
        (long : length new ≡ length marks) where
      wrote : Wrote s count here.ends here.says marks r new
      wrote = read most_brackets here.ends here.says (rw width here.stands)

      -- there is a place for the end mark, and the line's end lies behind its beginning, within the text
      pub laying_room : (r.marked < length new) × (place < r.at) × (r.at < length s)
      laying_room =
          let at = wrote.at in
          let ends : here.ends < length s = inside s here.ends (λ z. omega (arith, here.ended)) in
          let moves : place + length need_key < here.ends = phrase_moves here.stands in
          (omega (arith, fits_here, wrote.marked, long), omega (arith, moves, at), omega (arith, ends, at))

      -- one line more
      pub laying_more : Laying s from (r.at + 1) (r.marked + 1) (set new r.marked end_mark)
      laying_more =
          let l₁ : Line Formula = line place here.says in
          let more : List (Line Formula) = l.done ++ (l₁ ∷ []) in
          let behind : (columns : List Spot) → marks_of columns more ≡ marks_of columns l.done ++ (marks_in columns here.says ++ (end_mark ∷ []))
          = λ columns. marks_append columns l.done (l₁ ∷ []) ∙ ap (λ (m : List ℕ). marks_of columns l.done ++ m) (marks_one columns l₁) in
          record {
            to = l.to;
            lines = l.lines;
            done = more;
            left = here.later;
            begun = l.begun;
            whole = l.whole ∙ ap (λ (k : List (Line Formula)). l.done ++ k) here.same ∙ sym (append_assoc l.done (l₁ ∷ []) here.later);
            ahead = rw wrote.at here.others;
            many =
                omega (
                  arith,
                  l.many,
                  wrote.marked,
                  ap length (behind []),
                  length-append (marks_of [] l.done) (marks_in [] here.says ++ (end_mark ∷ [])),
                  length-append (marks_in [] here.says) (end_mark ∷ []),
                );
            fits = omega (arith, l.fits, long, length-set new r.marked end_mark);
            laid = λ q columns w few.
                take_set new r.marked end_mark laying_room.0
                ∙ ap (λ (m : List ℕ). m ++ (end_mark ∷ []))
                (wrote.marks q columns w few ∙ ap (λ (m : List ℕ). m ++ marks_in columns here.says) (l.laid q columns w few))
                ∙ append_assoc (marks_of columns l.done) (marks_in columns here.says) (end_mark ∷ [])
                ∙ sym (behind columns);
          }

  -- where no need line begins all marks stand
  pub laying_done : (Says s place need_key → ⊥) → (q : ℕ) (lines : List (Line Formula)) → NeedLines s from q lines → MarksWritten s lines count marks
  laying_done f q lines n =
      let same : lines ≡ l.lines = (lines_unique (λ p q q' a b. phrase_unique) n l.begun).1 in
      let all : l.lines ≡ l.done = l.whole ∙ ap (λ (k : List (Line Formula)). l.done ++ k) (need_over l.ahead f) ∙ append-nil l.done in
      rw (same ∙ all) (record { many = l.many; marks = l.laid })
