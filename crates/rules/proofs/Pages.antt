-- Laws of what the program writes: pages computed, one name or extract more, what a text can come to, how long its page can be. Assumes nothing.
use mathlib.Core.Path.{◌≡◌, refl, sym, ap, subst⁻¹, ◌∙◌}
use mathlib.Core.Bool.{Bool, true, ◌&&◌}
use mathlib.Core.List.{List, [], ◌∷◌, ◌++◌, append_assoc, append-nil}
use Rattle.rules.specs.Options.{Option, None, Some}
use Prim.Native.Nat.{ℕ, zero, suc, ◌+◌, ◌*◌, ◌≤◌, ◌<◌}
use native.Mathlib.Omega.{arith}
use lib.Dec.{ltb, leb}
use lib.ListN.{length, get_or, replicate, length-append}
use borrow.Author.Tests.{leb-true}
use Rattle.rules.specs.Lists.{every, keep, up_from}
use Rattle.rules.specs.Sets.{members, size}
use Rattle.rules.specs.Signs.{bytes, comma}
use Rattle.rules.specs.Names.{most_name_bytes}
use Rattle.rules.specs.Jobs.{Job}
use Rattle.rules.specs.Numbers.{job_of}
use Rattle.rules.specs.Refusals.{text_too_long, text_not_of_form, no_correct_split}
use Rattle.rules.specs.Splits.{proper, correct, columns_in}
use Rattle.rules.specs.Plans.{plan}
use Rattle.rules.specs.Plannings.{plan_room}
use Rattle.rules.specs.Texts.{Sheet, OfForm}
use Rattle.rules.specs.Sheets.{Refusal, sheet_fault, numbers_of, names_of}
use Rattle.rules.specs.Readings.{most_bytes, Reading, refused as unread, taken, reading_of, Reads, too_long, not_of_form, of_form}
use Rattle.rules.specs.Words.{digits, decimal, keyed_line}
use Rattle.rules.specs.Pages.{Outcome, refused, released, planned_with, outcome_of, behind_commas, joined_names, names_at, extract_lines, page, most_page_bytes}
use Rattle.rules.proofs.Lists.{and_parts}
use Rattle.rules.proofs.Numbers.{job_fit}
use Rattle.rules.proofs.SetBits.{below_most}
use Rattle.rules.proofs.Splits.{proper_means, correct_parts}
use Rattle.rules.proofs.Plans.{plan_planned}
use Rattle.rules.proofs.Useful.{planned_few}
use Rattle.rules.proofs.SplitSizes.{size_more, columns_few}
use Rattle.rules.proofs.Readings.{reading_taken, reading_refused, refused_numbers, refused_place}
use Rattle.rules.proofs.Sheets.{sheet_job}
use Rattle.rules.proofs.SheetNames.{names_short}
use Rattle.rules.proofs.Plannings.{planning_none, planning_planned}
use Rattle.rules.proofs.Words.{decimal_length, keyed_line_length}

-- ---- computed pages

-- the names of 01's whole case
abbrev volunteers : List (List ℕ)
volunteers = bytes "steward" ∷ bytes "born" ∷ bytes "home" ∷ bytes "duty" ∷ bytes "illness" ∷ bytes "panel" ∷ []

-- its page
pub whole_case_page : page (released volunteers (24 ∷ 35 ∷ []))
    ≡ bytes "result=split\nextracts=2\nextract=duty,illness\nextract=steward,born,panel\n"
unfolding decimal digits keyed_line behind_commas joined_names names_at extract_lines page members keep up_from
whole_case_page = refl

-- the page of a job without needs
pub no_extract_page : page (released volunteers []) ≡ bytes "result=split\nextracts=0\n"
unfolding decimal digits keyed_line extract_lines page
no_extract_page = refl

-- the page of a refusal
pub refusal_page : page (refused 5 8192) ≡ bytes "result=refused\nnumber=5\nplace=8192\n"
unfolding decimal digits keyed_line page
refusal_page = refl

-- ---- one more

behind_commas_more : (names : List (List ℕ)) (name : List ℕ) → behind_commas (names ++ (name ∷ [])) ≡ behind_commas names ++ (comma ∷ name)
unfolding behind_commas
behind_commas_more [] name = ap (λ (l : List ℕ). comma ∷ l) (append-nil name)
behind_commas_more (first ∷ names) name =
    ap (λ (l : List ℕ). comma ∷ l)
    (ap (λ (l : List ℕ). first ++ l) (behind_commas_more names name) ∙ sym (append_assoc first (behind_commas names) (comma ∷ name)))

-- one name alone is itself
pub joined_names_one : (name : List ℕ) → joined_names (name ∷ []) ≡ name
unfolding joined_names behind_commas
joined_names_one name = append-nil name

-- one name more is joined behind a comma
pub joined_names_more : (first : List ℕ) (names : List (List ℕ)) (name : List ℕ)
    → joined_names ((first ∷ names) ++ (name ∷ [])) ≡ joined_names (first ∷ names) ++ (comma ∷ name)
unfolding joined_names
joined_names_more first names name =
    ap (λ (l : List ℕ). first ++ l) (behind_commas_more names name) ∙ sym (append_assoc first (behind_commas names) (comma ∷ name))

-- one extract more has its line behind the others
pub lines_more : (names : List (List ℕ)) (split : List ℕ) (s : ℕ)
    → extract_lines names (split ++ (s ∷ [])) ≡ extract_lines names split ++ keyed_line "extract=" (joined_names (names_at names (members s)))
unfolding extract_lines
lines_more names [] s = append-nil (keyed_line "extract=" (joined_names (names_at names (members s))))
lines_more names (t ∷ split) s =
    let first = keyed_line "extract=" (joined_names (names_at names (members t))) in
    let last = keyed_line "extract=" (joined_names (names_at names (members s))) in
    ap (λ (l : List ℕ). first ++ l) (lines_more names split s) ∙ sym (append_assoc first (extract_lines names split) last)

-- ---- what a text comes to

-- the text is not too long, of the form and without a fault, it reads as its numbers and names, and these are the numbers of a job
pub record HasJob (s : List ℕ) (w : Reading) : Type 0 where
  pub sheet : Sheet
  pub job : Job
  pub short : length s ≤ most_bytes
  pub form : OfForm s sheet
  pub right : sheet_fault sheet ≡ None
  pub said : w ≡ taken (numbers_of sheet) (names_of sheet)
  pub known : job_of (numbers_of sheet) ≡ Some job

-- a refusal of the text, which has one of the numbers 1 to 6; 9 where its job has no correct split; or the planner's split of its job. So 7 and 8
-- never come with a text
pub data OutcomeWay (s : List ℕ) (w : Reading) : Outcome → Type 0 where
  is_refused_lem : (number place : ℕ) → w ≡ unread number place → Reads s (unread number place) → OutcomeWay s w (refused number place)
  none_correct : (t : HasJob s w) → plan t.job ≡ None → OutcomeWay s w (refused no_correct_split 0)
  is_released : (t : HasJob s w) (split : List ℕ) → plan t.job ≡ Some split → OutcomeWay s w (released (names_of t.sheet) split)

module _ {s : List ℕ} {w : Reading} (t : HasJob s w) where
  outcome_none : plan t.job ≡ None → outcome_of w ≡ refused no_correct_split 0
  unfolding outcome_of planned_with
  outcome_none e =
      ap outcome_of t.said
      ∙ ap (planned_with (names_of t.sheet)) (planning_none (numbers_of t.sheet) (replicate plan_room 0) t.job t.known (omega arith) e)

  outcome_planned : (split : List ℕ) → plan t.job ≡ Some split → outcome_of w ≡ released (names_of t.sheet) split
  unfolding outcome_of planned_with
  outcome_planned split e =
      ap outcome_of t.said
      ∙ ap (planned_with (names_of t.sheet))
      (planning_planned (numbers_of t.sheet) (replicate plan_room 0) t.job t.known (omega arith) split e)

  job_ways : OutcomeWay s w (outcome_of w)
  job_ways = go (plan t.job) refl
    where
      go : (o : Option (List ℕ)) → plan t.job ≡ o → OutcomeWay s w (outcome_of w)
      go None e = subst⁻¹ (OutcomeWay s w) (outcome_none e) (none_correct t e)
      go (Some split) e = subst⁻¹ (OutcomeWay s w) (outcome_planned split e) (is_released t split e)

-- what a text comes to
pub outcome_ways : {s : List ℕ} {w : Reading} → Reads s w → OutcomeWay s w (outcome_of w)
unfolding outcome_of
outcome_ways (too_long l) = is_refused_lem text_too_long most_bytes refl (too_long l)
outcome_ways (not_of_form {p} l a) = is_refused_lem text_not_of_form p refl (not_of_form l a)
outcome_ways {s} (of_form sheet l f) = go (sheet_fault sheet) refl
  where
    go : (o : Option Refusal) → sheet_fault sheet ≡ o → OutcomeWay s (reading_of sheet) (outcome_of (reading_of sheet))
    go None e =
        job_ways (record {
          sheet = sheet;
          job = _;
          short = l;
          form = f;
          right = e;
          said = reading_taken sheet e;
          known = sheet_job s sheet f e;
        })
    go (Some g) e =
        let read : Reads s (unread g.number g.place) = rw (← reading_refused sheet g e) (of_form sheet l f) in
        rw (reading_refused sheet g e) (is_refused_lem g.number g.place refl read)

-- ---- how long a page can be

-- a refusal's number has one digit and its place at most four
refusal_fits : (number place : ℕ) → number < 10 → place ≤ most_bytes → length (page (refused number place)) ≤ most_page_bytes
unfolding page
refusal_fits number place h l =
    let a = keyed_line_length "result=" (bytes "refused") in
    let b = keyed_line_length "number=" (decimal number) in
    let c = keyed_line_length "place=" (decimal place) in
    let d = decimal_length 0 number h in
    let e = decimal_length 3 place (omega arith) in
    omega (
      arith,
      length-append (keyed_line "result=" (bytes "refused")) (keyed_line "number=" (decimal number) ++ keyed_line "place=" (decimal place)),
      length-append (keyed_line "number=" (decimal number)) (keyed_line "place=" (decimal place)),
    )

-- 1 to 12 bytes
abbrev few_bytes : List ℕ → Bool
few_bytes name = ltb 0 (length name) && leb (length name) most_name_bytes

-- past the last name there is none, and so no byte
name_short : (names : List (List ℕ)) → every few_bytes names ≡ true → (i : ℕ) → length (get_or names i []) ≤ most_name_bytes
unfolding every
name_short [] e i = omega arith
name_short (name ∷ names) e zero =
    leb-true (length name) most_name_bytes
    (and_parts (ltb 0 (length name)) (leb (length name) most_name_bytes) (and_parts (few_bytes name) (every few_bytes names) e).0).1
name_short (name ∷ names) e (suc i) = name_short names (and_parts (few_bytes name) (every few_bytes names) e).1 i

module _ (names : List (List ℕ)) (short : (i : ℕ) → length (get_or names i []) ≤ most_name_bytes) where
  commas_fit : (columns : List ℕ) → length (behind_commas (names_at names columns)) ≤ 13 * length columns
  unfolding behind_commas names_at
  commas_fit [] = omega arith
  commas_fit (i ∷ columns) =
      omega (arith, length-append (get_or names i []) (behind_commas (names_at names columns)), short i, commas_fit columns)

  -- the first name stands behind no comma
  joined_names_fits : (columns : List ℕ) → 0 < length columns → length (joined_names (names_at names columns)) < 13 * length columns
  unfolding joined_names names_at
  joined_names_fits [] h = absurd (omega arith)
  joined_names_fits (i ∷ columns) h =
      omega (arith, length-append (get_or names i []) (behind_commas (names_at names columns)), short i, commas_fit columns)

  module _ (job : Job) (few : job.columns ≤ 16) where
    lines_fit : (split : List ℕ) → every (proper job) split ≡ true → length (extract_lines names split) ≤ 8 * length split + 13 * columns_in split
    unfolding extract_lines every columns_in size
    lines_fit [] e = omega arith
    lines_fit (s ∷ split) e =
        let both = and_parts (proper job s) (every (proper job) split) e in
        let within = proper_means job s both.0 in
        let Some = size_more s within.0 (below_most job.columns s few within.1) in
        let value = joined_names (names_at names (members s)) in
        let a = keyed_line_length "extract=" value in
        let b = joined_names_fits (members s) Some in
        let c = length-append (keyed_line "extract=" value) (extract_lines names split) in
        let d = lines_fit split both.1 in
        omega arith

    split_fits : (split : List ℕ) → correct job split ≡ true → length split ≤ 8 → length (page (released names split)) ≤ most_page_bytes
    unfolding page
    split_fits split e h =
        let a = keyed_line_length "result=" (bytes "split") in
        let b = keyed_line_length "extracts=" (decimal (length split)) in
        let c = decimal_length 0 (length split) (omega arith) in
        let d = lines_fit split (correct_parts job split e).proper in
        let f = columns_few job split few e in
        omega (
          arith,
          length-append (keyed_line "result=" (bytes "split")) (keyed_line "extracts=" (decimal (length split)) ++ extract_lines names split),
          length-append (keyed_line "extracts=" (decimal (length split))) (extract_lines names split),
        )

-- the page of what a text comes to has at most 296 bytes
pub page_fits : {s : List ℕ} {w : Reading} → Reads s w → length (page (outcome_of w)) ≤ most_page_bytes
page_fits {s} {w} reads = go (outcome_ways reads)
  where
    go : {o : Outcome} → OutcomeWay s w o → length (page o) ≤ most_page_bytes
    go (is_refused_lem number place e r) = refusal_fits number place (omega (arith, (refused_numbers r).1)) (refused_place r)
    go (none_correct t e) = refusal_fits no_correct_split 0 (omega arith) (omega arith)
    go (is_released t split e) =
        let names = names_of t.sheet in
        let job = job_fit (numbers_of t.sheet) t.job t.known in
        let plan = plan_planned t.job job.few_columns split e in
        let few : length split ≤ 8 = omega (arith, planned_few t.job split plan, job.few_needs) in
        split_fits names (name_short names (names_short s t.sheet t.form)) t.job job.few_columns split plan.right few
