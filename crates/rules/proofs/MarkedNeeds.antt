-- The marks of formulas: they decode to the needs that the formulas say, and they are few. Assumes nothing.
use mathlib.Core.Path.{◌≡◌, refl, sym, ap, ◌∙◌}
use mathlib.Core.Bool.{Bool, true, false, not, and-false}
use mathlib.Core.List.{List, [], ◌∷◌, ◌++◌, map, append-nil, append_assoc}
use Rattle.rules.specs.Options.{Some, bind}
use Prim.Native.Nat.{ℕ, ◌+◌, ◌*◌, ◌≤◌, ◌<◌}
use native.Mathlib.Omega.{arith}
use lib.Dec.{ltb, leb}
use lib.ListN.{length, length-append}
use borrow.Author.Tests.{ltb-true, lt-ltb, le-ltb, ne_eqb, leb-true, lt-leb, not-true}
use Rattle.rules.specs.Lists.{every, any_of, keep}
use Rattle.rules.specs.Needs.{Need}
use Rattle.rules.specs.Marks.{and_mark, or_mark, end_mark, in_front, rows, joined, after, operands_of, only, need_of, needs_of}
use Rattle.rules.specs.Numbers.{most_column_marks, unclosed, mark_unfit, markless, absent}
use Rattle.rules.specs.Numbers.{joins_too_few, leaves_other, column_marks_too_many, need_unfit}
use Rattle.rules.specs.Names.{Spot}
use Rattle.rules.specs.Phrases.{Formula, named, and_of, or_of, names_in}
use Rattle.rules.specs.Texts.{Line}
use Rattle.rules.specs.Sheets.{column_in, need_in, marks_in, marks_of}
use Rattle.rules.proofs.Lists.{and_parts, and_both, or_none, every_in, not_any_all}
use Rattle.rules.proofs.ListTests.{every_append, keep_append, every_weaker}
use Rattle.rules.proofs.Marks.{below_end}

-- ---- two lists and one more

module _ {A : Type 0} (p : A → Bool) where
  every_join : (xs ys : List A) (z : A) → every p xs ≡ true → every p ys ≡ true → p z ≡ true → every p (xs ++ (ys ++ (z ∷ []))) ≡ true
  unfolding every
  every_join xs ys z a b c = rw (every_append p xs (ys ++ (z ∷ [])), every_append p ys (z ∷ []), a, b, c)

  keep_join : (xs ys : List A) (z : A) → p z ≡ false → length (keep p (xs ++ (ys ++ (z ∷ [])))) ≡ length (keep p xs) + length (keep p ys)
  unfolding keep
  keep_join xs ys z e =
      rw (keep_append p xs (ys ++ (z ∷ [])), keep_append p ys (z ∷ []), e, append-nil (keep p ys)) (length-append (keep p xs) (keep p ys))

length_join : {A : Type 0} (xs ys : List A) (z : A) → length (xs ++ (ys ++ (z ∷ []))) ≡ length xs + length ys + 1
length_join xs ys z = omega (arith, length-append xs (ys ++ (z ∷ [])), length-append ys (z ∷ []))

-- ---- rows

-- marks closed by an end mark are the first row
rows_end : (row rest : List ℕ) → below_end row ≡ true → rows (row ++ (end_mark ∷ rest)) ≡ row ∷ rows rest
unfolding rows every in_front
rows_end [] rest h = refl
rows_end (m ∷ row) rest h =
    let parts = and_parts (ltb m end_mark) (below_end row) h in
    let low = ltb-true m end_mark parts.0 in
    rw (ne_eqb m end_mark (λ e. omega arith), rows_end row rest parts.1)

-- whether marks are unclosed shows at the last one
unclosed_behind : (row : List ℕ) (m : ℕ) (rest : List ℕ) → unclosed (row ++ (m ∷ rest)) ≡ unclosed (m ∷ rest)
unfolding unclosed
unclosed_behind [] m rest = refl
unclosed_behind (k ∷ []) m rest = refl
unclosed_behind (k ∷ j ∷ row) m rest = unclosed_behind (j ∷ row) m rest

closed_after : (rest : List ℕ) → unclosed rest ≡ false → unclosed (end_mark ∷ rest) ≡ false
unfolding unclosed
closed_after [] e = refl
closed_after (m ∷ rest) e = e

some_mark : (row : List ℕ) → 0 < length row → markless row ≡ false
unfolding markless
some_mark [] l = absurd (omega arith)
some_mark (m ∷ row) l = refl

-- a column that exists is a fit mark
column_fit : (n m : ℕ) → n ≤ and_mark → m < n → mark_unfit n m ≡ false
unfolding mark_unfit
column_fit n m most l = rw (le-ltb end_mark m (omega arith), lt-leb n m l) (and-false (ltb m and_mark))

-- ---- what a formula's names must be

-- the line has at most 32 names
abbrev pub few_names : Line Formula → Bool
few_names l = leb (length (names_in l.value)) most_column_marks

module _ (columns : List Spot) where
  -- every name's column is below n
  abbrev pub columns_below : ℕ → List Spot → Bool
  columns_below n names = every (λ x. ltb (column_in columns x) n) names

  -- so is the column of every name of every line
  abbrev pub lines_below : ℕ → List (Line Formula) → Bool
  lines_below n lines = every (λ l. columns_below n (names_in l.value)) lines

  -- columns below a number are below a greater one
  pub columns_more : (n m : ℕ) (names : List Spot) → n ≤ m → columns_below n names ≡ true → columns_below m names ≡ true
  columns_more n m names l = every_weaker (λ x. ltb (column_in columns x) n) (λ x. ltb (column_in columns x) m) names more
    where
      more : (x : Spot) → ltb (column_in columns x) n ≡ true → ltb (column_in columns x) m ≡ true
      more x e = let h = ltb-true (column_in columns x) n e in lt-ltb (column_in columns x) m (omega arith)

  -- so are those of lines
  pub lines_more : (n m : ℕ) (lines : List (Line Formula)) → n ≤ m → lines_below n lines ≡ true → lines_below m lines ≡ true
  lines_more n m lines l =
      every_weaker (λ k. columns_below n (names_in k.value)) (λ k. columns_below m (names_in k.value)) lines
      (λ k. columns_more n m (names_in k.value) l)

  sides : (n : ℕ) (v w : Formula) → columns_below n (names_in v ++ names_in w) ≡ true
      → (columns_below n (names_in v) ≡ true) × (columns_below n (names_in w) ≡ true)
  sides n v w h =
      and_parts (columns_below n (names_in v)) (columns_below n (names_in w))
      (sym (every_append (λ x. ltb (column_in columns x) n) (names_in v) (names_in w)) ∙ h)

  name_below : (n : ℕ) (x : Spot) → columns_below n (x ∷ []) ≡ true → column_in columns x < n
  unfolding every
  name_below n x h = ltb-true (column_in columns x) n (and_parts (ltb (column_in columns x) n) true h).0

  -- ---- a formula's marks decode to its need

  -- a formula's marks leave its need as one operand more
  pub operands_in : (v : Formula) (more : List ℕ) (operands : List Need) → columns_below and_mark (names_in v) ≡ true
      → operands_of (marks_in columns v ++ more) operands ≡ operands_of more (need_in columns v ∷ operands)
  unfolding marks_in need_in names_in operands_of after joined bind
  operands_in (named x) more operands h =
      let low = name_below and_mark x h in
      rw (ne_eqb (column_in columns x) and_mark (λ e. omega arith), ne_eqb (column_in columns x) or_mark (λ e. omega arith))
  operands_in (and_of v w) more operands h =
      let below = sides and_mark v w h in
      rw (append_assoc (marks_in columns v) (marks_in columns w ++ (and_mark ∷ [])) more, append_assoc (marks_in columns w) (and_mark ∷ []) more)
      (operands_in v (marks_in columns w ++ (and_mark ∷ more)) operands below.0
      ∙ operands_in w (and_mark ∷ more) (need_in columns v ∷ operands) below.1)
  operands_in (or_of v w) more operands h =
      let below = sides and_mark v w h in
      rw (append_assoc (marks_in columns v) (marks_in columns w ++ (or_mark ∷ [])) more, append_assoc (marks_in columns w) (or_mark ∷ []) more)
      (operands_in v (marks_in columns w ++ (or_mark ∷ more)) operands below.0
      ∙ operands_in w (or_mark ∷ more) (need_in columns v ∷ operands) below.1)

  -- a formula's marks alone leave its need alone
  operands_alone : (v : Formula) → columns_below and_mark (names_in v) ≡ true → operands_of (marks_in columns v) [] ≡ Some (need_in columns v ∷ [])
  unfolding operands_of
  operands_alone v h = ap (λ (row : List ℕ). operands_of row []) (sym (append-nil (marks_in columns v))) ∙ operands_in v [] [] h

  -- a formula's marks stand for the need it says
  pub need_in_lem : (v : Formula) → columns_below and_mark (names_in v) ≡ true → need_of (marks_in columns v) ≡ Some (need_in columns v)
  unfolding need_of bind only
  need_in_lem v h = rw (operands_alone v h)

  -- the rows of lines stand for the needs that the lines say
  pub needs_in : (lines : List (Line Formula)) → lines_below and_mark lines ≡ true
      → needs_of (map (λ l. marks_in columns l.value) lines) ≡ Some (map (λ l. need_in columns l.value) lines)
  unfolding needs_of bind every
  needs_in [] h = refl
  needs_in (l ∷ lines) h =
      let below = and_parts (columns_below and_mark (names_in l.value)) (lines_below and_mark lines) h in
      rw (need_in_lem l.value below.0, needs_in lines below.1)

  -- ---- which marks, and how many

  -- a formula has a mark for each name and a join less
  pub length_marks : (v : Formula) → length (marks_in columns v) + 1 ≡ 2 * length (names_in v)
  unfolding marks_in names_in
  length_marks (named x) = refl
  length_marks (and_of v w) =
      rw (length-append (names_in v) (names_in w))
      (omega (arith, length_join (marks_in columns v) (marks_in columns w) and_mark, length_marks v, length_marks w))
  length_marks (or_of v w) =
      rw (length-append (names_in v) (names_in w))
      (omega (arith, length_join (marks_in columns v) (marks_in columns w) or_mark, length_marks v, length_marks w))

  -- it has a column mark for each name
  pub column_marks : (v : Formula) → columns_below and_mark (names_in v) ≡ true
      → length (keep (λ m. ltb m and_mark) (marks_in columns v)) ≡ length (names_in v)
  unfolding marks_in names_in keep
  column_marks (named x) h = rw (lt-ltb (column_in columns x) and_mark (name_below and_mark x h))
  column_marks (and_of v w) h =
      let below = sides and_mark v w h in
      rw (length-append (names_in v) (names_in w), keep_join (λ m. ltb m and_mark) (marks_in columns v) (marks_in columns w) and_mark refl)
      (rw (column_marks v below.0, column_marks w below.1))
  column_marks (or_of v w) h =
      let below = sides and_mark v w h in
      rw (length-append (names_in v) (names_in w), keep_join (λ m. ltb m and_mark) (marks_in columns v) (marks_in columns w) or_mark refl)
      (rw (column_marks v below.0, column_marks w below.1))

  -- what holds of the joins and of the columns of its names holds of all its marks
  marks_all : (p : ℕ → Bool) → p and_mark ≡ true → p or_mark ≡ true → (v : Formula) → every (λ x. p (column_in columns x)) (names_in v) ≡ true
      → every p (marks_in columns v) ≡ true
  unfolding marks_in names_in every
  marks_all p a o (named x) h = h
  marks_all p a o (and_of v w) h =
      let both = and_parts _ _ (sym (every_append (λ x. p (column_in columns x)) (names_in v) (names_in w)) ∙ h) in
      every_join p (marks_in columns v) (marks_in columns w) and_mark (marks_all p a o v both.0) (marks_all p a o w both.1) a
  marks_all p a o (or_of v w) h =
      let both = and_parts _ _ (sym (every_append (λ x. p (column_in columns x)) (names_in v) (names_in w)) ∙ h) in
      every_join p (marks_in columns v) (marks_in columns w) or_mark (marks_all p a o v both.0) (marks_all p a o w both.1) o

  -- none of its marks is an end mark
  pub marks_below : (v : Formula) → columns_below and_mark (names_in v) ≡ true → below_end (marks_in columns v) ≡ true
  marks_below v h = marks_all (λ m. ltb m end_mark) refl refl v (columns_more and_mark end_mark (names_in v) (omega arith) h)

  -- a formula with at most 32 names is a fit need
  need_fit_lem : (v : Formula) → columns_below and_mark (names_in v) ≡ true → length (names_in v) ≤ most_column_marks → need_unfit (marks_in columns v) ≡ false
  unfolding need_unfit joins_too_few leaves_other absent column_marks_too_many
  need_fit_lem v h few =
      rw (some_mark (marks_in columns v) (omega (arith, length_marks v)), operands_alone v h, need_in_lem v h, column_marks v h)
      (le-ltb most_column_marks (length (names_in v)) few)

  -- ---- the marks of need lines

  -- the rows of the marks are the marks of each line
  pub rows_marks : (lines : List (Line Formula)) → lines_below and_mark lines ≡ true
      → rows (marks_of columns lines) ≡ map (λ l. marks_in columns l.value) lines
  unfolding marks_of rows every
  rows_marks [] h = refl
  rows_marks (l ∷ lines) h =
      let below = and_parts (columns_below and_mark (names_in l.value)) (lines_below and_mark lines) h in
      rows_end (marks_in columns l.value) (marks_of columns lines) (marks_below l.value below.0)
      ∙ ap (λ (rest : List (List ℕ)). marks_in columns l.value ∷ rest) (rows_marks lines below.1)

  -- every need of lines is closed
  pub marks_closed : (lines : List (Line Formula)) → unclosed (marks_of columns lines) ≡ false
  unfolding marks_of unclosed
  marks_closed [] = refl
  marks_closed (l ∷ lines) =
      unclosed_behind (marks_in columns l.value) end_mark (marks_of columns lines) ∙ closed_after (marks_of columns lines) (marks_closed lines)

  -- lines with at most 32 names each have at most 64 marks each
  pub length_lines : (lines : List (Line Formula)) → every few_names lines ≡ true → length (marks_of columns lines) ≤ 64 * length lines
  unfolding marks_of every
  length_lines [] h = omega arith
  length_lines (l ∷ lines) h =
      let few = and_parts (few_names l) (every few_names lines) h in
      rw (length-append (marks_in columns l.value) (end_mark ∷ marks_of columns lines))
      (omega (arith, length_marks l.value, leb-true (length (names_in l.value)) 32 few.0, length_lines lines few.1))

  -- what holds of the joins, the end and the columns of names of lines holds of all their marks
  lines_all : (p : ℕ → Bool) → p and_mark ≡ true → p or_mark ≡ true → p end_mark ≡ true → (lines : List (Line Formula))
      → every (λ l. every (λ x. p (column_in columns x)) (names_in l.value)) lines ≡ true → every p (marks_of columns lines) ≡ true
  unfolding marks_of every
  lines_all p a o e [] h = refl
  lines_all p a o e (l ∷ lines) h =
      let both = and_parts _ _ h in
      let rest = and_both (p end_mark) (every p (marks_of columns lines)) e (lines_all p a o e lines both.1) in
      every_append p (marks_in columns l.value) (end_mark ∷ marks_of columns lines) ∙ and_both _ _ (marks_all p a o l.value both.0) rest

  -- no mark of lines is unfit where all their columns exist
  pub marks_fit : (n : ℕ) (lines : List (Line Formula)) → n ≤ and_mark → lines_below n lines ≡ true
      → any_of (mark_unfit n) (marks_of columns lines) ≡ false
  unfolding mark_unfit
  marks_fit n lines most h =
      let all : every (λ m. not (mark_unfit n m)) (marks_of columns lines) ≡ true =
      lines_all (λ m. not (mark_unfit n m)) refl refl refl lines (every_weaker (λ l. columns_below n (names_in l.value)) _ lines line_fit h) in
      not_any_all (mark_unfit n) (marks_of columns lines) (λ m i. not-true (mark_unfit n m) (every_in (λ m. not (mark_unfit n m)) all i))
    where
      name_fit : (x : Spot) → ltb (column_in columns x) n ≡ true → not (mark_unfit n (column_in columns x)) ≡ true
      name_fit x e = ap not (column_fit n (column_in columns x) most (ltb-true (column_in columns x) n e))

      line_fit : (l : Line Formula) → columns_below n (names_in l.value) ≡ true
          → every (λ x. not (mark_unfit n (column_in columns x))) (names_in l.value) ≡ true
      line_fit l = every_weaker (λ x. ltb (column_in columns x) n) (λ x. not (mark_unfit n (column_in columns x))) (names_in l.value) name_fit

  -- no need of lines is unfit
  pub needs_fit : (lines : List (Line Formula)) → lines_below and_mark lines ≡ true → every few_names lines ≡ true
      → any_of need_unfit (map (λ l. marks_in columns l.value) lines) ≡ false
  unfolding any_of every
  needs_fit [] h few = refl
  needs_fit (l ∷ lines) h few =
      let below = and_parts (columns_below and_mark (names_in l.value)) (lines_below and_mark lines) h in
      let short = and_parts (few_names l) (every few_names lines) few in
      or_none _ _ (need_fit_lem l.value below.0 (leb-true (length (names_in l.value)) most_column_marks short.0))
      (needs_fit lines below.1 short.1)
