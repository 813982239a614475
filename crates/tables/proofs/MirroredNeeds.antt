-- A need with its columns in the other order is met where the need is met by the mirror of the set. Assumes nothing.
use mathlib.Core.Path.{◌≡◌, refl, sym, ap, ap₂, ◌∙◌}
use mathlib.Core.Bool.{Bool, true, false, cond, ◌&&◌, ◌||◌}
use mathlib.Core.List.{List, [], ◌∷◌}
use Rattle.rules.proofs.Options.{Some, bind, bind-eq-some_iff, some-injective, none-ne-some}
use Prim.Native.Nat.{ℕ, ◌<◌}
use native.Mathlib.Omega.{arith}
use lib.Dec.{eqb, ltb, leb}
use borrow.Author.Tests.{eqb-false, ltb-true, ltb-false, lt-ltb, leb-false}
use Rattle.rules.specs.Lists.{every, any_of}
use Rattle.rules.specs.Sets.{has}
use Rattle.rules.specs.Needs.{Need, column, both, either, meets}
use Rattle.rules.specs.Marks.{and_mark, or_mark, end_mark, in_front, rows, joined, after, operands_of, only, need_of, needs_of}
use Rattle.rules.specs.Numbers.{mark_unfit}
use Rattle.rules.proofs.Lists.{and_parts, and_both, or_neither, or_left, or_right}
use Rattle.rules.proofs.Marks.{is_join, after_column, after_join}
use Rattle.tables.specs.Tables.{mirror}
use Rattle.tables.proofs.Mirrors.{mirror_has}
use Rattle.tables.proofs.MirroredMarks.{mark_column, mirrored_need}

-- every column that the need names is one of the first n
abbrev pub names_below : ℕ → Need → Bool
names_below n (column m) = ltb m n
names_below n (both v w) = names_below n v && names_below n w
names_below n (either v w) = names_below n v && names_below n w

pub meets_mirrored : (n place : ℕ) (v : Need) → names_below n v ≡ true → meets (mirrored_need n v) place ≡ meets v (mirror n place)
unfolding meets
meets_mirrored n place (column m) h =
    let below = ltb-true m n h in
    ap (λ (k : ℕ). has k place) (mark_column n m below) ∙ sym (mirror_has n place m below)
meets_mirrored n place (both v w) h =
    let parts = and_parts (names_below n v) (names_below n w) h in
    ap₂ ◌&&◌ (meets_mirrored n place v parts.0) (meets_mirrored n place w parts.1)
meets_mirrored n place (either v w) h =
    let parts = and_parts (names_below n v) (names_below n w) h in
    ap₂ ◌||◌ (meets_mirrored n place v parts.0) (meets_mirrored n place w parts.1)

-- ---- the needs of fit marks name only columns that there are

module _ (n : ℕ) where
  -- the mark is a join or one of the first n columns
  abbrev named : ℕ → Bool
  named m = is_join m || ltb m n

  mark_named : (m : ℕ) → mark_unfit n m ≡ false → eqb m end_mark ≡ false → named m ≡ true
  unfolding mark_unfit
  mark_named m fit inside = go (is_join m) refl
    where
      go : (b : Bool) → is_join m ≡ b → (is_join m || ltb m n) ≡ true
      go true e = or_left (is_join m) (ltb m n) e
      go false e =
          let parts = or_neither (ltb end_mark m) (ltb m and_mark && leb n m) fit in
          let joins = or_neither (eqb m and_mark) (eqb m or_mark) e in
          let most = ltb-false end_mark m parts.0 in
          let no_and = eqb-false m and_mark joins.0 in
          let no_or = eqb-false m or_mark joins.1 in
          let no_end = eqb-false m end_mark inside in
          let less : m < 16 = omega arith in
          or_right (is_join m) (ltb m n) (lt-ltb m n (leb-false n m (rw (lt-ltb m and_mark less) at parts.1)))

  rows_named : (marks : List ℕ) → any_of (mark_unfit n) marks ≡ false → every (every named) (rows marks) ≡ true
  unfolding rows any_of every in_front
  rows_named [] e = refl
  rows_named (m ∷ marks) e =
      let parts = or_neither (mark_unfit n m) (any_of (mark_unfit n) marks) e in
      go (eqb m end_mark) (mark_named m parts.0) (rows marks) (rows_named marks parts.1)
    where
      go : (b : Bool) → (b ≡ false → named m ≡ true) → (rest : List (List ℕ)) → every (every named) rest ≡ true
          → every (every named) (cond b ([] ∷ rest) (in_front m rest)) ≡ true
      go true h rest f = f
      go false h [] f = rw (h refl)
      go false h (row ∷ rest) f = rw (h refl) f

  joined_below : (join : Need → Need → Need) → ((v w : Need) → names_below n (join v w) ≡ (names_below n v && names_below n w)) → (vs us : List Need)
      → every (names_below n) vs ≡ true → joined join vs ≡ Some us → every (names_below n) us ≡ true
  unfolding joined every
  joined_below join splits [] us h e = absurd (none-ne-some us e)
  joined_below join splits (w ∷ []) us h e = absurd (none-ne-some us e)
  joined_below join splits (w ∷ v ∷ vs) us h e =
      let last = and_parts (names_below n w) (names_below n v && every (names_below n) vs) h in
      let others = and_parts (names_below n v) (every (names_below n) vs) last.1 in
      rw (← some-injective (join v w ∷ vs) us e)
      (and_both (names_below n (join v w)) (every (names_below n) vs)
      (splits v w ∙ and_both (names_below n v) (names_below n w) others.0 last.0) others.1)

  after_below : (m : ℕ) (vs us : List Need) → named m ≡ true → every (names_below n) vs ≡ true → after m vs ≡ Some us
      → every (names_below n) us ≡ true
  unfolding every
  after_below m vs us h f e = go (is_join m) refl
    where
      join : (b : Bool) → joined (cond b both either) vs ≡ Some us → every (names_below n) us ≡ true
      join true g = joined_below both (λ v w. refl) vs us f g
      join false g = joined_below either (λ v w. refl) vs us f g

      go : (b : Bool) → is_join m ≡ b → every (names_below n) us ≡ true
      go true j = join (eqb m and_mark) (sym (after_join m vs j) ∙ e)
      go false j =
          rw (← some-injective (column m ∷ vs) us (sym (after_column m vs j) ∙ e))
          (and_both (ltb m n) (every (names_below n) vs) (rw j at h) f)

  operands_below : (row : List ℕ) (vs ws : List Need) → every named row ≡ true → every (names_below n) vs ≡ true → operands_of row vs ≡ Some ws
      → every (names_below n) ws ≡ true
  unfolding operands_of every bind-eq-some_iff
  operands_below [] vs ws h f e = rw (← some-injective vs ws e) f
  operands_below (m ∷ row) vs ws h f e =
      let parts = and_parts (named m) (every named row) h in
      let more = (bind-eq-some_iff (after m vs) (operands_of row)).0 e in
      operands_below row more.0 ws parts.1 (after_below m vs more.0 parts.0 f more.1) more.2

  only_below : (vs : List Need) (v : Need) → every (names_below n) vs ≡ true → only vs ≡ Some v → names_below n v ≡ true
  unfolding only every
  only_below [] v h e = absurd (none-ne-some v e)
  only_below (w ∷ []) v h e = rw (← some-injective w v e) (and_parts (names_below n w) true h).0
  only_below (w ∷ u ∷ vs) v h e = absurd (none-ne-some v e)

  need_below : (row : List ℕ) (v : Need) → every named row ≡ true → need_of row ≡ Some v → names_below n v ≡ true
  unfolding need_of every bind-eq-some_iff
  need_below row v h e =
      let left = (bind-eq-some_iff (operands_of row []) only).0 e in
      only_below left.0 v (operands_below row [] left.0 h refl left.1) left.2

  all_below : (needs : List (List ℕ)) (vs : List Need) → every (every named) needs ≡ true → needs_of needs ≡ Some vs
      → every (names_below n) vs ≡ true
  unfolding needs_of every bind-eq-some_iff
  all_below [] vs h e = rw (← some-injective [] vs e)
  all_below (row ∷ needs) vs h e =
      let parts = and_parts (every named row) (every (every named) needs) h in
      let first = (bind-eq-some_iff (need_of row) (λ v. bind (needs_of needs) (λ ws. Some (v ∷ ws)))).0 e in
      let rest = (bind-eq-some_iff (needs_of needs) (λ ws. Some (first.0 ∷ ws))).0 first.2 in
      rw (← some-injective (first.0 ∷ rest.0) vs rest.2)
      (and_both (names_below n first.0) (every (names_below n) rest.0) (need_below row first.0 parts.0 first.1)
      (all_below needs rest.0 parts.1 rest.1))

  pub needs_below : (marks : List ℕ) (vs : List Need) → any_of (mark_unfit n) marks ≡ false → needs_of (rows marks) ≡ Some vs
      → every (names_below n) vs ≡ true
  needs_below marks vs fit e = all_below (rows marks) vs (rows_named marks fit) e
