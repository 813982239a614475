-- Laws of marks with the columns in the other order: the marks of a job stand for the same needs, with their columns so. Assumes nothing.
use mathlib.Core.Path.{◌≡◌, refl, sym, ap, ◌∙◌}
use mathlib.Core.Bool.{Bool, true, false, not, cond}
use mathlib.Core.List.{List, [], ◌∷◌, map}
use Rattle.rules.specs.Options.{Option, None, Some, bind, option_map}
use Prim.Native.Nat.{ℕ, suc, ◌-◌, ◌≤◌, ◌<◌}
use native.Mathlib.Decide.{dec_lt}
use native.Mathlib.Omega.{arith}
use lib.Dec.{eqb, ltb}
use lib.ListN.{length}
use borrow.Author.Tests.{lt-ltb, le-ltb, ne_eqb, lt-leb}
use Rattle.rules.specs.Lists.{keep}
use Rattle.rules.specs.Needs.{Need, column, both, either}
use Rattle.rules.specs.Marks.{and_mark, or_mark, end_mark, in_front, rows, joined, after, operands_of, only, need_of, needs_of}
use Rattle.rules.specs.Numbers.{unclosed, markless, absent, joins_too_few, leaves_other, mark_unfit, column_marks_too_many, need_unfit}
use Rattle.tables.specs.Mirrored.{mirrored_mark}

-- ---- one mark

pub mark_column : (n m : ℕ) → m < n → mirrored_mark n m ≡ n - 1 - m
unfolding mirrored_mark
mark_column n m h = rw (lt-ltb m n h)

pub mark_other : (n m : ℕ) → n ≤ m → mirrored_mark n m ≡ m
unfolding mirrored_mark
mark_other n m h = rw (le-ltb m n h)

-- the need with its columns in the other order
abbrev pub mirrored_need : ℕ → Need → Need
mirrored_need n (column m) = column (mirrored_mark n m)
mirrored_need n (both v w) = both (mirrored_need n v) (mirrored_need n w)
mirrored_need n (either v w) = either (mirrored_need n v) (mirrored_need n w)

module _ (n : ℕ) where
  -- a test that doesn't tell the columns apart doesn't tell their order
  mark_test : (p : ℕ → Bool) (b : Bool) → ((m : ℕ) → m < n → p m ≡ b) → (m : ℕ) → p (mirrored_mark n m) ≡ p m
  mark_test p b alike m = go (dec_lt m n)
    where
      go : Dec (m < n) → p (mirrored_mark n m) ≡ p m
      go (yes h) = ap p (mark_column n m h) ∙ alike (n - 1 - m) (omega arith) ∙ sym (alike m h)
      go (no h) = ap p (mark_other n m (omega arith))

module _ (n : ℕ) (few : n ≤ 16) where
  mark_is : (k : ℕ) → 16 ≤ k → (m : ℕ) → eqb (mirrored_mark n m) k ≡ eqb m k
  mark_is k h = mark_test n (λ m. eqb m k) false (λ m l. ne_eqb m k (λ e. omega arith))

  mark_names : (m : ℕ) → ltb (mirrored_mark n m) and_mark ≡ ltb m and_mark
  mark_names = mark_test n (λ m. ltb m and_mark) true (λ m l. lt-ltb m and_mark (omega arith))

  pub mark_unfit_lem : (m : ℕ) → mark_unfit n (mirrored_mark n m) ≡ mark_unfit n m
  unfolding mark_unfit
  mark_unfit_lem =
      mark_test n (mark_unfit n) false λ m l.
      rw (le-ltb end_mark m (omega arith), lt-ltb m and_mark (omega arith), lt-leb n m l)

  -- ---- the rows

  pub rows_mirrored : (marks : List ℕ) → rows (map (mirrored_mark n) marks) ≡ map (map (mirrored_mark n)) (rows marks)
  unfolding rows in_front
  rows_mirrored [] = refl
  rows_mirrored (m ∷ marks) = rw (mark_is end_mark (omega arith) m, rows_mirrored marks) (go (eqb m end_mark) (rows marks))
    where
      front : (rest : List (List ℕ)) → in_front (mirrored_mark n m) (map (map (mirrored_mark n)) rest) ≡ map (map (mirrored_mark n)) (in_front m rest)
      front [] = refl
      front (row ∷ rest) = refl

      go : (b : Bool) (rest : List (List ℕ))
          → cond b ([] ∷ map (map (mirrored_mark n)) rest) (in_front (mirrored_mark n m) (map (map (mirrored_mark n)) rest))
          ≡ map (map (mirrored_mark n)) (cond b ([] ∷ rest) (in_front m rest))
      go true rest = refl
      go false rest = front rest

  pub unclosed_mirrored : (marks : List ℕ) → unclosed (map (mirrored_mark n) marks) ≡ unclosed marks
  unfolding unclosed
  unclosed_mirrored [] = refl
  unclosed_mirrored (m ∷ []) = ap not (mark_is end_mark (omega arith) m)
  unclosed_mirrored (m ∷ k ∷ marks) = unclosed_mirrored (k ∷ marks)

  columns_mirrored : (row : List ℕ) → length (keep (λ m. ltb m and_mark) (map (mirrored_mark n) row)) ≡ length (keep (λ m. ltb m and_mark) row)
  unfolding keep
  columns_mirrored [] = refl
  columns_mirrored (m ∷ row) =
      rw (mark_names m)
      (go (ltb m and_mark) (keep (λ k. ltb k and_mark) (map (mirrored_mark n) row)) (keep (λ k. ltb k and_mark) row) (columns_mirrored row))
    where
      go : (b : Bool) (xs ys : List ℕ) → length xs ≡ length ys → length (cond b (mirrored_mark n m ∷ xs) xs) ≡ length (cond b (m ∷ ys) ys)
      go true xs ys e = ap suc e
      go false xs ys e = e

  -- ---- the need of a row

  after_mirrored : (m : ℕ) (vs : List Need)
      → after (mirrored_mark n m) (map (mirrored_need n) vs) ≡ option_map (map (mirrored_need n)) (after m vs)
  unfolding after joined
  after_mirrored m vs = rw (mark_is and_mark (omega arith) m, mark_is or_mark (omega arith) m) (go (eqb m and_mark) (eqb m or_mark) vs)
    where
      go : (a o : Bool) (us : List Need)
          → cond a (joined both (map (mirrored_need n) us))
          (cond o (joined either (map (mirrored_need n) us)) (Some (column (mirrored_mark n m) ∷ map (mirrored_need n) us)))
          ≡ option_map (map (mirrored_need n)) (cond a (joined both us) (cond o (joined either us) (Some (column m ∷ us))))
      go true o [] = refl
      go true o (w ∷ []) = refl
      go true o (w ∷ v ∷ us) = refl
      go false true [] = refl
      go false true (w ∷ []) = refl
      go false true (w ∷ v ∷ us) = refl
      go false false us = refl

  operands_mirrored : (row : List ℕ) (vs : List Need)
      → operands_of (map (mirrored_mark n) row) (map (mirrored_need n) vs) ≡ option_map (map (mirrored_need n)) (operands_of row vs)
  unfolding operands_of bind
  operands_mirrored [] vs = refl
  operands_mirrored (m ∷ row) vs = rw (after_mirrored m vs) (go (after m vs) (operands_mirrored row))
    where
      go : (o : Option (List Need))
          → ((us : List Need)
          → operands_of (map (mirrored_mark n) row) (map (mirrored_need n) us) ≡ option_map (map (mirrored_need n)) (operands_of row us))
          → bind (option_map (map (mirrored_need n)) o) (operands_of (map (mirrored_mark n) row))
          ≡ option_map (map (mirrored_need n)) (bind o (operands_of row))
      go None f = refl
      go (Some us) f = f us

  need_mirrored : (row : List ℕ) → need_of (map (mirrored_mark n) row) ≡ option_map (mirrored_need n) (need_of row)
  unfolding need_of bind only
  need_mirrored row = rw (operands_mirrored row []) (go (operands_of row []))
    where
      go : (o : Option (List Need)) → bind (option_map (map (mirrored_need n)) o) only ≡ option_map (mirrored_need n) (bind o only)
      go None = refl
      go (Some []) = refl
      go (Some (v ∷ [])) = refl
      go (Some (v ∷ w ∷ vs)) = refl

  pub needs_mirrored : (needs : List (List ℕ)) (vs : List Need) → needs_of needs ≡ Some vs
      → needs_of (map (map (mirrored_mark n)) needs) ≡ Some (map (mirrored_need n) vs)
  unfolding needs_of bind
  needs_mirrored needs vs e = all needs ∙ ap (option_map (map (mirrored_need n))) e
    where
      go : (o : Option Need) (p : Option (List Need))
          → bind (option_map (mirrored_need n) o) (λ v. bind (option_map (map (mirrored_need n)) p) (λ ws. Some (v ∷ ws)))
          ≡ option_map (map (mirrored_need n)) (bind o (λ v. bind p (λ ws. Some (v ∷ ws))))
      go None p = refl
      go (Some v) None = refl
      go (Some v) (Some ws) = refl

      all : (rest : List (List ℕ)) → needs_of (map (map (mirrored_mark n)) rest) ≡ option_map (map (mirrored_need n)) (needs_of rest)
      all [] = refl
      all (row ∷ rest) = rw (need_mirrored row, all rest) (go (need_of row) (needs_of rest))

  absent_map : {A B : Type 0} (f : A → B) (o : Option A) → absent (option_map f o) ≡ absent o
  unfolding absent
  absent_map f None = refl
  absent_map f (Some a) = refl

  markless_map : (row : List ℕ) → markless (map (mirrored_mark n) row) ≡ markless row
  unfolding markless
  markless_map [] = refl
  markless_map (m ∷ row) = refl

  pub need_unfit_lem : (row : List ℕ) → need_unfit (map (mirrored_mark n) row) ≡ need_unfit row
  unfolding need_unfit joins_too_few leaves_other column_marks_too_many
  need_unfit_lem row =
      rw (
        markless_map row,
        operands_mirrored row [],
        need_mirrored row,
        columns_mirrored row,
        absent_map (map (mirrored_need n)) (operands_of row []),
        absent_map (mirrored_need n) (need_of row),
      )
