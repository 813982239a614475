-- The judge's answer. It is "the first of: extract i is empty or names a missing column (smallest i); extract i contains forbidden set j
-- (smallest i, then j); extracts i and j, i below j, share a column (smallest i, then j); need k is met by no extract (smallest k); right."
-- "An unfit job gives 7."
use Rattle.std.specs.Prelude.{not, List, [], ◌∷◌, ℕ, suc}
use Rattle.rules.specs.Options.{Option, None, Some, option_map, unwrap_or, option_or}
use Rattle.rules.specs.Lists.{first_where}
use Rattle.rules.specs.Needs.{Need}
use Rattle.rules.specs.Jobs.{Job, breaks, unlinked}
use Rattle.rules.specs.Numbers.{Numbers, job_of}
use Rattle.rules.specs.Splits.{proper, met}
use Rattle.rules.specs.Refusals.{numbers_unfit}

pub data Verdict : Type 0 where
  -- refusal 7
  unfit_job : Verdict
  -- extract i is empty or names a missing column
  improper : ℕ → Verdict
  -- extract i contains forbidden set j
  forbids : ℕ → ℕ → Verdict
  -- extracts i and j share a column
  shares : ℕ → ℕ → Verdict
  -- need k is met by no extract
  unmet : ℕ → Verdict
  right : Verdict

-- the refusal's number of an answer: "An unfit job gives 7", and no other answer refuses
unfoldable pub refusal_of : Verdict → Option ℕ
refusal_of unfit_job = Some numbers_unfit
refusal_of (improper i) = None
refusal_of (forbids i j) = None
refusal_of (shares i j) = None
refusal_of (unmet k) = None
refusal_of right = None

-- the values that come with an answer, in the order of the sentence
unfoldable pub values_of : Verdict → List ℕ
values_of unfit_job = []
values_of (improper i) = i ∷ []
values_of (forbids i j) = i ∷ j ∷ []
values_of (shares i j) = i ∷ j ∷ []
values_of (unmet k) = k ∷ []
values_of right = []

-- two indices of an answer
pub record Places : Type 0 where
  pub i : ℕ
  pub j : ℕ

-- the smallest i such that extract i is empty or names a missing column
abbrev pub first_improper : Job → List ℕ → Option ℕ
first_improper job split = first_where (λ s. not (proper job s)) split

-- the smallest i, then j, such that extract i contains forbidden set j
unfoldable pub first_forbidden : Job → List ℕ → Option Places
first_forbidden job [] = None
first_forbidden job (s ∷ split) =
    option_or (option_map (λ j. record { i = 0; j = j }) (first_where (breaks job s) job.forbidden))
    (option_map (λ p. record { i = suc p.i; j = p.j }) (first_forbidden job split))

-- the smallest i, then j, such that extracts i and j, i below j, share a column
unfoldable pub first_sharing : Job → List ℕ → Option Places
first_sharing job [] = None
first_sharing job (s ∷ split) =
    option_or (option_map (λ j. record { i = 0; j = suc j }) (first_where (λ t. not (unlinked job s t)) split))
    (option_map (λ p. record { i = suc p.i; j = suc p.j }) (first_sharing job split))

-- the smallest k such that need k is met by no extract
abbrev pub first_unmet : List Need → List ℕ → Option ℕ
first_unmet needs split = first_where (λ v. not (met split v)) needs

-- the first fault in the order of the sentence
unfoldable pub first_fault : Job → List ℕ → Option Verdict
first_fault job split =
    option_or (option_map improper (first_improper job split))
    (option_or (option_map (λ p. forbids p.i p.j) (first_forbidden job split))
    (option_or (option_map (λ p. shares p.i p.j) (first_sharing job split))
    (option_map unmet (first_unmet job.needs split))))

-- the answer for a job
unfoldable pub verdict : Job → List ℕ → Verdict
verdict job split = unwrap_or (first_fault job split) right

-- the answer for numbers: "An unfit job gives 7."
unfoldable pub judged : Numbers → List ℕ → Verdict
judged q split = unwrap_or (option_map (λ job. verdict job split) (job_of q)) unfit_job
