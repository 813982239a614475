-- What the searches of the judge find, one after the other, is the answer for the numbers. Assumes nothing.
use mathlib.Core.Path.{◌≡◌, sym, ap, ◌∙◌}
use mathlib.Core.Bool.{not}
use mathlib.Core.List.{List, []}
use Rattle.rules.specs.Options.{Option, None, Some}
use Prim.Native.Nat.{ℕ, ◌<◌}
use native.Mathlib.Omega.{arith}
use lib.ListN.{length, take}
use lib.Seq.{get_or-take}
use Rattle.std.specs.Prelude.{position}
use Rattle.rules.specs.Lists.{first_where}
use Rattle.rules.specs.Marks.{rows}
use Rattle.rules.specs.Jobs.{Job}
use Rattle.rules.specs.Needs.{Need}
use Rattle.rules.specs.Numbers.{Numbers, set_unfit}
use Rattle.rules.specs.Splits.{proper}
use Rattle.rules.specs.Verdicts.{Verdict as Said, unfit_job, improper, forbids, shares, unmet, right, verdict, judged}
use Rattle.rules.specs.Verdicts.{first_improper, first_forbidden, first_sharing, first_unmet}
use Rattle.rules.proofs.Library.{position_first}
use Rattle.rules.proofs.Searches.{first_same}
use Rattle.rules.proofs.Numbers.{unfit_none, job_fit}
use Rattle.rules.proofs.Verdicts.{judged_job, judged_unfit}
use Rattle.rules.proofs.FirstFaults.{says_improper, says_forbids, says_shares, says_unmet, says_right, unfit_improper}
use Rattle.job.specs.Records.{loaded}
use Rattle.job.specs.Rows.{rows_of, StandFor}
use Rattle.job.specs.declared.Job.{Job as Held}
use Rattle.job.proofs.Records.{loaded_unfit}
use Rattle.job.proofs.Known.{Known, is_loaded}
use Rattle.judge.specs.Answers.{places_of}

-- ---- what loading tells

pub not_loaded : (q : Numbers) (split : List ℕ) (answer : Option Held) → answer ≡ loaded q → answer ≡ None → judged q split ≡ unfit_job
not_loaded q split answer e none = judged_unfit q split (unfit_none q (loaded_unfit q answer e none))

-- ---- what the searches tell, one after the other

-- a search with the job's number of columns is one with the number given
same_columns : {n m : ℕ} {found : Option ℕ} (split : List ℕ) → m ≡ n → first_where (set_unfit m) split ≡ found
    → first_where (set_unfit n) split ≡ found
same_columns split e f = rw (← e) f

module _ (q : Numbers) (split : List ℕ) {answer : Option Held} (is : answer ≡ loaded q) {held : Held} (some : answer ≡ Some held) where
  pub known : Known q held
  known = is_loaded q answer is held some

  as_improper : first_improper known.job split ≡ first_where (set_unfit q.columns) split
  as_improper =
      sym (first_same (set_unfit q.columns) 0 (λ s. not (proper known.job s))
      (λ s. unfit_improper known.job q.columns s (job_fit q known.job known.known).columns) split)

  says : {r : Said} → verdict known.job split ≡ r → judged q split ≡ r
  says e = judged_job q known.job split known.known ∙ e

  module _ {improper_at : Option ℕ} (e : improper_at ≡ position (set_unfit held.columns) split) where
    unfit_told : {found : Option ℕ} → improper_at ≡ found → first_improper known.job split ≡ found
    unfit_told f = as_improper ∙ same_columns split known.columns (sym (e ∙ position_first (set_unfit held.columns) split) ∙ f)

    pub answer_improper : (i : ℕ) → improper_at ≡ Some i → judged q split ≡ improper i
    answer_improper i f = says (says_improper known.job split i (unfit_told f))

    module _ (all_proper : improper_at ≡ None) {broken_at : Option (ℕ × ℕ)}
        (b : (job : Job) → job.forbidden ≡ q.forbidden → places_of broken_at ≡ first_forbidden job split) where
      broken_told : {found : Option (ℕ × ℕ)} → broken_at ≡ found → first_forbidden known.job split ≡ places_of found
      broken_told f = sym (b known.job (job_fit q known.job known.known).forbidden) ∙ ap places_of f

      pub answer_forbids : (i j : ℕ) → broken_at ≡ Some (i, j) → judged q split ≡ forbids i j
      answer_forbids i j f = says (says_forbids known.job split (unfit_told all_proper) (record { i = i; j = j }) (broken_told f))

      module _ (all_safe : broken_at ≡ None) {shared_at : Option (ℕ × ℕ)} (h : (job : Job) → places_of shared_at ≡ first_sharing job split) where
        shared_told : {found : Option (ℕ × ℕ)} → shared_at ≡ found → first_sharing known.job split ≡ places_of found
        shared_told f = sym (h known.job) ∙ ap places_of f

        pub answer_shares : (i j : ℕ) → shared_at ≡ Some (i, j) → judged q split ≡ shares i j
        answer_shares i j f =
            says (says_shares known.job split (unfit_told all_proper) (broken_told all_safe) (record { i = i; j = j }) (shared_told f))

        module _ (all_unlinked : shared_at ≡ None) {places : List (List ℕ)} (laid : places ≡ rows_of (rows q.marks))
            (as_many : held.needs ≡ length (take held.needs places)) {unmet_at : Option ℕ}
            (u : (needs : List Need) → length needs ≡ length (take held.needs places) → StandFor (take held.needs places) needs
            → unmet_at ≡ first_unmet needs split) where
          stand : StandFor (take held.needs places) known.job.needs
          stand k l =
              let within : k < held.needs = omega (arith, known.many) in
              rw (get_or-take held.needs places k [] within, laid) (known.stand k l)

          unmet_told : {found : Option ℕ} → unmet_at ≡ found → first_unmet known.job.needs split ≡ found
          unmet_told f = sym (u known.job.needs (known.many ∙ as_many) stand) ∙ f

          pub answer_unmet : (k : ℕ) → unmet_at ≡ Some k → judged q split ≡ unmet k
          answer_unmet k f =
              says
              (says_unmet known.job split (unfit_told all_proper) (broken_told all_safe) (shared_told all_unlinked) k (unmet_told f))

          pub answer_right : unmet_at ≡ None → judged q split ≡ right
          answer_right f =
              says (says_right known.job split (unfit_told all_proper) (broken_told all_safe) (shared_told all_unlinked) (unmet_told f))
