-- What the promises of `vjolthar_read` and `vjolthar_judge` say: one outcome for each input, and the same as the call's own. The other functions have the
-- promises of the calls themselves. Assumes nothing.
use mathlib.Core.Path.{◌≡◌, refl, sym, ap, ◌∙◌}
use mathlib.Core.Bool.{Bool, true, false, cond}
use mathlib.Core.List.{List}
use mathlib.Core.Logic.{◌↔◌}
use Prim.Native.Nat.{ℕ, ◌≤◌}
use native.Mathlib.Omega.{arith}
use lib.Dec.{eqb}
use lib.ListN.{length, take, drop}
use Rattle.rules.specs.Lists.{written}
use Rattle.rules.specs.Numbers.{Numbers}
use Rattle.rules.specs.Verdicts.{Verdict as Said, unfit_job, improper, forbids, shares, unmet, right}
use Rattle.rules.specs.Refusals.{numbers_unfit, slice_too_short}
use Rattle.rules.proofs.Written.{take_written, drop_written}
use Rattle.judge.specs.declared.Verdict.{Verdict}
use Rattle.judge.specs.Answers.{verdict_of}
use Rattle.judge.specs.Promises.{Judges}
use Rattle.text.specs.Promises.{Answer, Takes}
use Rattle.text.specs.Tables.{table_bytes}
use Rattle.text.proofs.Promises.{one_answer, refusal_numbers}
use Rattle.vjolthar.specs.declared.verdicts.Told.{Told}
use Rattle.vjolthar.specs.Verdicts.{told_of, Tells}
use Rattle.vjolthar.specs.Handed.{JobSlices, Handed, too_short, not_handed, numbers_of, slices_with, Hands}
use Rattle.vjolthar.proofs.Handing.{filled, rooms}

-- ---- `vjolthar_judge`

-- two outcomes that the promise allows are equal
pub one_telling : (q : Numbers) (split : List ℕ) (t u : Told) → Tells q split t → Tells q split u → t ≡ u
one_telling q split t u a b = a ∙ sym b

-- the numbers are those of the judge's answer
pub tells_judge : (q : Numbers) (split : List ℕ) (t : Told) (r : Verdict) → Tells q split t → Judges q split r → t ≡ told_of (verdict_of r)
tells_judge q split t r a b = a ∙ ap told_of (sym b)

-- what the numbers say
abbrev said_by : Told → Said
said_by t =
    cond (eqb t.refusal numbers_unfit) unfit_job
    (cond (eqb t.fault 1) (improper t.first)
    (cond (eqb t.fault 2) (forbids t.first t.second)
    (cond (eqb t.fault 3) (shares t.first t.second) (cond (eqb t.fault 4) (unmet t.first) right))))

-- no two answers have the same numbers
pub told_apart : (u v : Said) → told_of u ≡ told_of v → u ≡ v
told_apart u v e = sym (back u) ∙ ap said_by e ∙ back v
  where
    back : (w : Said) → said_by (told_of w) ≡ w
    back unfit_job = refl
    back (improper i) = refl
    back (forbids i j) = refl
    back (shares i j) = refl
    back (unmet k) = refl
    back right = refl

-- ---- `vjolthar_read`

-- two outcomes that the promise allows are equal
pub one_handing : {s : List ℕ} {old new after : JobSlices} {t u : Handed} → Hands s old t new → Hands s old u after → (t ≡ u) × (new ≡ after)
one_handing {old} a b =
    let same = one_answer a.takes b.takes in (
      a.answered ∙ ap (λ (r : Answer). cond (too_short old) not_handed (numbers_of r)) same ∙ sym b.answered,
      a.lent ∙ ap (λ (r : Answer). cond (too_short old) old (slices_with r old)) same ∙ sym b.lent,
    )

-- the numbers and the first places of the slices are what was read, and every place after them is as it was
pub record IsRead (r : Answer) (old : JobSlices) (t : Handed) (new : JobSlices) : Type 0 where
  pub numbers : t ≡ numbers_of r
  pub forbidden : take 32 new.forbidden ≡ r.job.forbidden
  pub marks : take 512 new.marks ≡ r.job.marks
  pub names : take table_bytes new.names ≡ r.names
  pub after_forbidden : drop 32 new.forbidden ≡ drop 32 old.forbidden
  pub after_marks : drop 512 new.marks ≡ drop 512 old.marks
  pub after_names : drop table_bytes new.names ≡ drop table_bytes old.names

first_places : {n : ℕ} (here old : List ℕ) {new : List ℕ} → length here ≡ n → n ≤ length old → new ≡ written here old → take n new ≡ here
first_places {n} here old e room w = rw (w, sym e) (take_written here old (omega (arith, e)))

places_after : {n : ℕ} (here old : List ℕ) {new : List ℕ} → length here ≡ n → new ≡ written here old → drop n new ≡ drop n old
places_after {n} here old e w = rw (w, sym e) (drop_written here old)

module _ {s : List ℕ} {old new : JobSlices} {t : Handed} (a : Hands s old t new) where
  short_answer : too_short old ≡ true → t ≡ not_handed
  short_answer e = a.answered ∙ rw e refl

  read_answer : too_short old ≡ false → t ≡ numbers_of a.read
  read_answer e = a.answered ∙ rw e refl

  read_lent : too_short old ≡ false → new ≡ slices_with a.read old
  read_lent e = a.lent ∙ rw e refl

  -- 8 exactly if a slice is too short
  pub hands_short : (t.refusal ≡ slice_too_short) ↔ (too_short old ≡ true)
  unfolding not_handed numbers_of
  hands_short = (λ e. go (too_short old) refl e, λ e. ap (λ (h : Handed). h.refusal) (short_answer e))
    where
      go : (b : Bool) → too_short old ≡ b → t.refusal ≡ slice_too_short → too_short old ≡ true
      go true e h = e
      go false e h =
          let is = ap (λ (u : Handed). u.refusal) (read_answer e) in
          absurd (omega (arith, is, h, refusal_numbers a.takes))

  -- and then nothing is written
  pub short_nothing : too_short old ≡ true → new ≡ old
  short_nothing e = a.lent ∙ rw e refl

  -- else the outcome is what the call itself answers
  pub hands_read_whole : {r : Answer} → Takes s r → too_short old ≡ false → IsRead r old t new
  unfolding slices_with
  hands_read_whole {r} b e =
      let same = one_answer a.takes b in
      let room = rooms old e in
      let full = filled a.takes in
      let lent = read_lent e in
      let in_forbidden = ap (λ (l : JobSlices). l.forbidden) lent in
      let in_marks = ap (λ (l : JobSlices). l.marks) lent in
      let in_names = ap (λ (l : JobSlices). l.names) lent in
      rw (sym same)
      (record {
        numbers = read_answer e;
        forbidden = first_places a.read.job.forbidden old.forbidden full.forbidden room.forbidden in_forbidden;
        marks = first_places a.read.job.marks old.marks full.marks room.marks in_marks;
        names = first_places a.read.names old.names full.names room.names in_names;
        after_forbidden = places_after a.read.job.forbidden old.forbidden full.forbidden in_forbidden;
        after_marks = places_after a.read.job.marks old.marks full.marks in_marks;
        after_names = places_after a.read.names old.names full.names in_names;
      })
