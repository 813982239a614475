-- Laws of rows of marks: the first row ends at the first end mark, and fit numbers have few marks. Assumes nothing.
use mathlib.Core.Path.{◌≡◌, refl, sym, ap}
use mathlib.Core.Bool.{Bool, true, false, not, cond, ◌&&◌, ◌||◌, true≢false, false≢true, or_assoc}
use mathlib.Core.List.{List, [], ◌∷◌}
use mathlib.Core.Logic.{◌⊎◌, inl, inr}
use Rattle.rules.proofs.Options.{Some, bind-eq-some_iff, some-injective, none-ne-some}
use Prim.Native.Nat.{ℕ, suc, ◌+◌, ◌-◌, ◌*◌, ◌≤◌, ◌<◌}
use native.Mathlib.Numerals.{add-one}
use native.Mathlib.Omega.{arith}
use lib.Dec.{eqb, ltb, leb}
use lib.ListN.{length, get_or, take, drop, length-drop, drop_of_length-le}
use lib.Seq.{drop-cons}
use borrow.Author.Tests.{eqb-true, eqb-false, eq-eqb, ne_eqb, lt-ltb, le-ltb, ltb-true, ltb-false}
use Rattle.rules.specs.Lists.{every, any_of, keep}
use Rattle.rules.specs.Needs.{Need, column, both, either}
use Rattle.rules.specs.Marks.{and_mark, or_mark, end_mark, in_front, rows, before_end, joined, after, operands_of, only, need_of}
use Rattle.rules.specs.Numbers.{Numbers, unfit, unclosed, mark_unfit, need_unfit, column_marks_too_many, needs_too_many}
use Rattle.rules.proofs.Lists.{and_parts, or_neither}
use Rattle.rules.proofs.Numbers.{fit_clauses, need_clauses, fit_need}

-- ---- the first row

pub before_few : (marks : List ℕ) → length (before_end marks) ≤ length marks
unfolding before_end
before_few [] = omega arith
before_few (m ∷ marks) = go (eqb m end_mark) (before_few marks)
  where
    go : (b : Bool) → length (before_end marks) ≤ length marks → length (cond b [] (m ∷ before_end marks)) ≤ suc (length marks)
    go true h = omega arith
    go false h = omega arith

pub before_take : (marks : List ℕ) → before_end marks ≡ take (length (before_end marks)) marks
unfolding before_end
before_take [] = refl
before_take (m ∷ marks) = go (eqb m end_mark) (before_take marks)
  where
    go : (b : Bool) → before_end marks ≡ take (length (before_end marks)) marks
        → cond b [] (m ∷ before_end marks) ≡ take (length (cond b [] (m ∷ before_end marks))) (m ∷ marks)
    go true e = refl
    go false e = ap (λ (l : List ℕ). m ∷ l) e

-- what follows the first end mark
abbrev pub after_end : List ℕ → List ℕ
after_end marks = drop (suc (length (before_end marks))) marks

pub rows_first : (marks : List ℕ) → 0 < length marks → rows marks ≡ before_end marks ∷ rows (after_end marks)
unfolding rows before_end in_front
rows_first [] h = absurd (omega arith)
rows_first (m ∷ []) h = go (eqb m end_mark)
  where
    go : (b : Bool) → cond b ([] ∷ []) ((m ∷ []) ∷ []) ≡ cond b [] (m ∷ []) ∷ rows (drop (suc (length (cond b [] (m ∷ [])))) (m ∷ []))
    go true = refl
    go false = refl
rows_first (m ∷ k ∷ marks) h = go (eqb m end_mark) (rows_first (k ∷ marks) (omega arith))
  where
    go : (b : Bool) → rows (k ∷ marks) ≡ before_end (k ∷ marks) ∷ rows (after_end (k ∷ marks))
        → cond b ([] ∷ rows (k ∷ marks)) (in_front m (rows (k ∷ marks)))
        ≡ cond b [] (m ∷ before_end (k ∷ marks)) ∷ rows (drop (suc (length (cond b [] (m ∷ before_end (k ∷ marks))))) (m ∷ k ∷ marks))
    go true e = refl
    go false e = ap (in_front m) e

pub unclosed_first : (marks : List ℕ) → length (before_end marks) < length marks → unclosed marks ≡ unclosed (after_end marks)
unfolding unclosed before_end
unclosed_first [] h = absurd (omega arith)
unclosed_first (m ∷ []) h = go (eqb m end_mark) h
  where
    go : (b : Bool) → length (cond b [] (m ∷ [])) < 1 → not b ≡ unclosed (drop (suc (length (cond b [] (m ∷ [])))) (m ∷ []))
    go true l = refl
    go false l = absurd (omega arith)
unclosed_first (m ∷ k ∷ marks) h = go (eqb m end_mark) h (unclosed_first (k ∷ marks))
  where
    go : (b : Bool) → length (cond b [] (m ∷ before_end (k ∷ marks))) < length (m ∷ k ∷ marks)
        → (length (before_end (k ∷ marks)) < length (k ∷ marks) → unclosed (k ∷ marks) ≡ unclosed (after_end (k ∷ marks)))
        → unclosed (k ∷ marks) ≡ unclosed (drop (suc (length (cond b [] (m ∷ before_end (k ∷ marks))))) (m ∷ k ∷ marks))
    go true l f = refl
    go false l f = f (omega arith)

pub unclosed_last : (marks : List ℕ) → 0 < length marks → length (before_end marks) ≡ length marks → unclosed marks ≡ true
unfolding unclosed before_end
unclosed_last [] h e = absurd (omega arith)
unclosed_last (m ∷ []) h e = go (eqb m end_mark) e
  where
    go : (b : Bool) → length (cond b [] (m ∷ [])) ≡ 1 → not b ≡ true
    go true l = absurd (omega arith)
    go false l = refl
unclosed_last (m ∷ k ∷ marks) h e = go (eqb m end_mark) e (unclosed_last (k ∷ marks) (omega arith))
  where
    go : (b : Bool) → length (cond b [] (m ∷ before_end (k ∷ marks))) ≡ length (m ∷ k ∷ marks)
        → (length (before_end (k ∷ marks)) ≡ length (k ∷ marks) → unclosed (k ∷ marks) ≡ true) → unclosed (k ∷ marks) ≡ true
    go true l f = absurd (omega arith)
    go false l f = f (omega arith)

end_fit : (n m : ℕ) → eqb m end_mark ≡ true → mark_unfit n m ≡ false
unfolding mark_unfit
end_fit n m e = rw (eqb-true m end_mark e)

pub marks_first : (n : ℕ) (marks : List ℕ)
    → any_of (mark_unfit n) marks ≡ (any_of (mark_unfit n) (before_end marks) || any_of (mark_unfit n) (after_end marks))
unfolding any_of before_end
marks_first n [] = refl
marks_first n (m ∷ marks) = go (eqb m end_mark) refl (marks_first n marks)
  where
    go : (b : Bool) → eqb m end_mark ≡ b
        → any_of (mark_unfit n) marks ≡ (any_of (mark_unfit n) (before_end marks) || any_of (mark_unfit n) (after_end marks))
        → (mark_unfit n m || any_of (mark_unfit n) marks)
        ≡ (any_of (mark_unfit n) (cond b [] (m ∷ before_end marks))
        || any_of (mark_unfit n) (drop (suc (length (cond b [] (m ∷ before_end marks)))) (m ∷ marks)))
    go true e f = rw (end_fit n m e)
    go false e f = rw (f, or_assoc)

-- ---- the first row from a place on

pub before_here : (marks : List ℕ) (i : ℕ) → i < length marks → get_or marks i 0 ≡ end_mark → before_end (drop i marks) ≡ []
unfolding before_end
before_here marks i h e = rw (drop-cons marks i 0 h, eq-eqb (get_or marks i 0) end_mark e)

pub before_later : (marks : List ℕ) (i : ℕ) → i < length marks → (get_or marks i 0 ≡ end_mark → ⊥)
    → before_end (drop i marks) ≡ get_or marks i 0 ∷ before_end (drop (i + 1) marks)
unfolding before_end
before_later marks i h n = rw (add-one, drop-cons marks i 0 h, ne_eqb (get_or marks i 0) end_mark n)

pub before_past : (marks : List ℕ) (i : ℕ) → length marks ≤ i → before_end (drop i marks) ≡ []
unfolding before_end
before_past marks i h = rw (drop_of_length-le marks h)

pub before_within : (marks : List ℕ) (i : ℕ) → i ≤ length marks → i + length (before_end (drop i marks)) ≤ length marks
before_within marks i h = omega (arith, before_few (drop i marks), length-drop i marks)

-- the marks from a place to the next end mark
pub before_part : (marks : List ℕ) (i to : ℕ) → to ≡ i + length (before_end (drop i marks)) → take (to - i) (drop i marks) ≡ before_end (drop i marks)
before_part marks i to e =
    let long : to - i ≡ length (before_end (drop i marks)) = omega arith in
    rw long (sym (before_take (drop i marks)))

-- ---- what one mark does to the operands

abbrev pub is_join : ℕ → Bool
is_join m = eqb m and_mark || eqb m or_mark

-- a mark is told for a join by two tests, one behind the other
pub join_test : (m : ℕ) → (m ≡ and_mark) ⊎ ((m ≡ and_mark → ⊥) × m ≡ or_mark) → is_join m ≡ true
join_test m (inl a) = rw a
join_test m (inr b) = rw b.1

pub not_join : (m : ℕ) → (m ≡ and_mark → ⊥) → (m ≡ or_mark → ⊥) → is_join m ≡ false
not_join m a b = rw (ne_eqb m and_mark a, ne_eqb m or_mark b)

pub after_column : (m : ℕ) (vs : List Need) → is_join m ≡ false → after m vs ≡ Some (column m ∷ vs)
unfolding after
after_column m vs j = let parts = or_neither (eqb m and_mark) (eqb m or_mark) j in rw (parts.0, parts.1)

pub after_join : (m : ℕ) (vs : List Need) → is_join m ≡ true → after m vs ≡ joined (cond (eqb m and_mark) both either) vs
unfolding after
after_join m vs = go (eqb m and_mark) (eqb m or_mark)
  where
    go : (a o : Bool) → (a || o) ≡ true
        → cond a (joined both vs) (cond o (joined either vs) (Some (column m ∷ vs))) ≡ joined (cond a both either) vs
    go true o e = refl
    go false true e = refl
    go false false e = absurd (false≢true e)

-- ---- a fit need has at most 63 marks: one operand is left, so it has one join less than columns

-- every mark is a column or a join
abbrev pub below_end : List ℕ → Bool
below_end = every (λ m. ltb m end_mark)

joined_length : (join : Need → Need → Need) (vs us : List Need) → joined join vs ≡ Some us → length vs ≡ suc (length us)
unfolding joined
joined_length join [] us e = absurd (none-ne-some us e)
joined_length join (w ∷ []) us e = absurd (none-ne-some us e)
joined_length join (w ∷ v ∷ vs) us e = ap (λ (l : List Need). suc (length l)) (some-injective (join v w ∷ vs) us e)

after_length : (m : ℕ) (vs us : List Need) → m < end_mark → after m vs ≡ Some us → suc (length us) ≡ length vs + cond (ltb m and_mark) 2 0
unfolding after
after_length m vs us h e = go (eqb m and_mark) (eqb m or_mark) refl refl e
  where
    go : (a b : Bool) → eqb m and_mark ≡ a → eqb m or_mark ≡ b
        → cond a (joined both vs) (cond b (joined either vs) (Some (column m ∷ vs))) ≡ Some us
        → suc (length us) ≡ length vs + cond (ltb m and_mark) 2 0
    go true b p q f =
        let n = eqb-true m and_mark p in
        rw (le-ltb m and_mark (omega arith)) (omega (arith, joined_length both vs us f))
    go false true p q f =
        let n = eqb-true m or_mark q in
        rw (le-ltb m and_mark (omega arith)) (omega (arith, joined_length either vs us f))
    go false false p q f =
        let n = eqb-false m and_mark p in
        let o = eqb-false m or_mark q in
        rw (lt-ltb m and_mark (omega arith)) (omega (arith, ap length (some-injective (column m ∷ vs) us f)))

operands_marks : (row : List ℕ) (vs ws : List Need) → below_end row ≡ true → operands_of row vs ≡ Some ws
    → length row + length ws ≡ length vs + 2 * length (keep (λ m. ltb m and_mark) row)
unfolding operands_of every keep bind-eq-some_iff
operands_marks [] vs ws h e = omega (arith, ap length (some-injective vs ws e))
operands_marks (m ∷ row) vs ws h e =
    let parts = and_parts (ltb m end_mark) (below_end row) h in
    let more = (bind-eq-some_iff (after m vs) (operands_of row)).0 e in
    let here = after_length m vs more.0 (ltb-true m end_mark parts.0) more.1 in
    go (length more.0) (ltb m and_mark) here (operands_marks row more.0 ws parts.1 more.2)
  where
    go : (k : ℕ) (b : Bool) → suc k ≡ length vs + cond b 2 0
        → length row + length ws ≡ k + 2 * length (keep (λ m. ltb m and_mark) row)
        → suc (length row) + length ws ≡ length vs + 2 * length (cond b (m ∷ keep (λ m. ltb m and_mark) row) (keep (λ m. ltb m and_mark) row))
    go k true p f = omega arith
    go k false p f = omega arith

only_length : (vs : List Need) (v : Need) → only vs ≡ Some v → length vs ≡ 1
unfolding only
only_length [] v e = absurd (none-ne-some v e)
only_length (w ∷ []) v e = refl
only_length (w ∷ u ∷ vs) v e = absurd (none-ne-some v e)

pub need_few : (row : List ℕ) → below_end row ≡ true → need_unfit row ≡ false → length row ≤ 63
unfolding need_of column_marks_too_many bind-eq-some_iff
need_few row h e =
    let v = fit_need row e in
    let left = (bind-eq-some_iff (operands_of row []) only).0 v.1 in
    let few = ltb-false 32 (length (keep (λ m. ltb m and_mark) row)) (need_clauses row e).few_columns in
    omega (arith, operands_marks row [] left.0 h left.1, only_length left.0 v.0 left.2)

-- ---- fit numbers have at most 512 marks: at most 8 needs, each with its end mark

pub rows_below : (n : ℕ) (marks : List ℕ) → any_of (mark_unfit n) marks ≡ false → every below_end (rows marks) ≡ true
unfolding rows any_of mark_unfit every in_front
rows_below n [] e = refl
rows_below n (m ∷ marks) e =
    let parts = or_neither (mark_unfit n m) (any_of (mark_unfit n) marks) e in
    let most = ltb-false end_mark m (or_neither (ltb end_mark m) (ltb m and_mark && leb n m) parts.0).0 in
    go (eqb m end_mark) refl most (rows marks) (rows_below n marks parts.1)
  where
    go : (b : Bool) → eqb m end_mark ≡ b → m ≤ end_mark → (rest : List (List ℕ)) → every below_end rest ≡ true
        → every below_end (cond b ([] ∷ rest) (in_front m rest)) ≡ true
    go true p l rest f = f
    go false p l [] f = let n = eqb-false m end_mark p in rw (lt-ltb m end_mark (omega arith))
    go false p l (row ∷ rest) f = let n = eqb-false m end_mark p in rw (lt-ltb m end_mark (omega arith)) f

-- the marks of rows, each row with its end mark
abbrev filled : List (List ℕ) → ℕ
filled [] = 0
filled (row ∷ rest) = suc (length row) + filled rest

closed_filled : (marks : List ℕ) → unclosed marks ≡ false → length marks ≡ filled (rows marks)
unfolding rows unclosed in_front
closed_filled [] e = refl
closed_filled (m ∷ []) e = go (eqb m end_mark) e
  where
    go : (b : Bool) → not b ≡ false → 1 ≡ filled (cond b ([] ∷ []) ((m ∷ []) ∷ []))
    go true p = refl
    go false p = absurd (true≢false p)
closed_filled (m ∷ k ∷ marks) e = go (eqb m end_mark) (rows (k ∷ marks)) (closed_filled (k ∷ marks) e)
  where
    go : (b : Bool) (rest : List (List ℕ)) → length (k ∷ marks) ≡ filled rest
        → length (m ∷ k ∷ marks) ≡ filled (cond b ([] ∷ rest) (in_front m rest))
    go true rest f = omega arith
    go false [] f = absurd (omega arith)
    go false (row ∷ rest) f = omega arith

filled_few : (needs : List (List ℕ)) → every below_end needs ≡ true → any_of need_unfit needs ≡ false → filled needs ≤ 64 * length needs
unfolding every any_of
filled_few [] h e = omega arith
filled_few (row ∷ needs) h e =
    let below = and_parts (below_end row) (every below_end needs) h in
    let fit = or_neither (need_unfit row) (any_of need_unfit needs) e in
    omega (arith, need_few row below.0 fit.0, filled_few needs below.1 fit.1)

pub marks_few : (q : Numbers) → unfit q ≡ false → length q.marks ≤ 512
unfolding needs_too_many
marks_few q e =
    let fit = fit_clauses q e in
    let few = ltb-false 8 (length (rows q.marks)) fit.few_needs in
    let most = filled_few (rows q.marks) (rows_below q.columns q.marks fit.marks) fit.needs in
    omega (arith, closed_filled q.marks fit.closed)
