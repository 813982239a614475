-- What the judge's promise says: one answer for each input, when it is a refusal, when it is right, and demand 3. Assumes nothing.
use mathlib.Core.Path.{◌≡◌, refl, sym, ap, ◌∙◌}
use mathlib.Core.Bool.{Bool, true, false, cond, true≢false}
use mathlib.Core.List.{List}
use Rattle.rules.specs.Options.{Option, None, Some}
use Prim.Native.Nat.{ℕ}
use Rattle.rules.specs.Jobs.{Job}
use Rattle.rules.specs.Numbers.{Numbers, unfit, job_of}
use Rattle.rules.specs.Splits.{Correct}
use Rattle.rules.specs.Verdicts.{Verdict as Said, unfit_job, improper, forbids, shares, unmet, right, refusal_of, verdict}
use Rattle.rules.specs.Refusals.{numbers_unfit}
use Rattle.rules.specs.Demands.{AsksNoMore}
use Rattle.rules.proofs.Splits.{correct_means, means_correct}
use Rattle.rules.proofs.Verdicts.{right_correct, correct_right, judged_job, judged_unfit, judged_refusal}
use Rattle.rules.proofs.Demands.{less_judged}
use Rattle.judge.specs.Answers.{verdict_of}
use Rattle.judge.specs.Promises.{Judges}
use Rattle.judge.specs.declared.Verdict.{Verdict}
use Rattle.judge.specs.declared.Verdict.TheVariants.{Unfit, Improper, Forbids, Shares, Unmet, Right}

-- ---- two allowed answers are equal

answer_for : Said → Verdict
answer_for unfit_job = Unfit
answer_for (improper i) = Improper i
answer_for (forbids i j) = Forbids i j
answer_for (shares i j) = Shares i j
answer_for (unmet k) = Unmet k
answer_for right = Right

answer_back : (r : Verdict) → answer_for (verdict_of r) ≡ r
unfolding answer_for
answer_back Unfit = refl
answer_back (Improper i) = refl
answer_back (Forbids i j) = refl
answer_back (Shares i j) = refl
answer_back (Unmet k) = refl
answer_back Right = refl

pub one_answer : (q : Numbers) (split : List ℕ) (r s : Verdict) → Judges q split r → Judges q split s → r ≡ s
one_answer q split r s a b = sym (answer_back r) ∙ ap answer_for (a ∙ sym b) ∙ answer_back s

-- ---- refusal 7 exactly if the numbers are unfit, and no other refusal

pub refuses_unfit : (q : Numbers) (split : List ℕ) (r : Verdict) → Judges q split r → refusal_of (verdict_of r) ≡ cond (unfit q) (Some numbers_unfit) None
refuses_unfit q split r a = ap refusal_of a ∙ judged_refusal q split

-- ---- right exactly if the list is a correct split of the job

right_verdict : (q : Numbers) (job : Job) (split : List ℕ) (r : Verdict) → job_of q ≡ Some job → Judges q split r
    → r ≡ Right → verdict job split ≡ right
right_verdict q job split r j a e = sym (judged_job q job split j) ∙ sym a ∙ ap verdict_of e

verdict_right : (q : Numbers) (job : Job) (split : List ℕ) (r : Verdict) → job_of q ≡ Some job → Judges q split r
    → verdict job split ≡ right → r ≡ Right
verdict_right q job split r j a e = one_answer q split r Right a (sym (judged_job q job split j ∙ e))

pub right_if_correct : (q : Numbers) (job : Job) (split : List ℕ) (r : Verdict) → job_of q ≡ Some job → Judges q split r
    → Correct job split → r ≡ Right
right_if_correct q job split r j a c = verdict_right q job split r j a (correct_right job split (means_correct job split c))

pub correct_if_right : (q : Numbers) (split : List ℕ) (r : Verdict) → Judges q split r
    → r ≡ Right → (job : Job) × (job_of q ≡ Some job) × Correct job split
correct_if_right q split r a e = go (job_of q) refl
  where
    go : (o : Option Job) → job_of q ≡ o → (job : Job) × (job_of q ≡ Some job) × Correct job split
    go None j =
        let unfit : right ≡ unfit_job = sym (ap verdict_of e) ∙ a ∙ judged_unfit q split j in
        let clash : ◌≡◌ {A = Bool} true false = cc in
        absurd (true≢false clash)
    go (Some job) j = (job, j, correct_means job split (right_correct job split (right_verdict q job split r j a e)))

-- ---- demand 3: what is judged right for a job is judged right for one that asks no more

pub less_right : (p q : Numbers) (first second : Job) (split : List ℕ) (r s : Verdict) → job_of p ≡ Some first → job_of q ≡ Some second
    → AsksNoMore first second → Judges p split r → Judges q split s → r ≡ Right → s ≡ Right
less_right p q first second split r s i j less a b e =
    verdict_right q second split s j b (less_judged first second less split (right_verdict p first split r i a e))
