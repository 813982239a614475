-- What the promise of the call says: one outcome for each input, which refusal comes when, and what the page then holds. Assumes nothing.
use mathlib.Core.Path.{◌≡◌, refl, sym, ap, subst, ◌∙◌}
use mathlib.Core.Bool.{true, false}
use mathlib.Core.List.{List}
use mathlib.Core.Logic.{◌⊎◌, inl, inr, ◌↔◌}
use Rattle.std.specs.Prelude.{Result, Ok, Err}
use Rattle.rules.proofs.Options.{None, Some, some-injective}
use Prim.Native.Nat.{ℕ, ◌≤◌, ◌<◌}
use native.Mathlib.Decide.{dec_lt}
use native.Mathlib.Omega.{arith}
use lib.Dec.{eqb, ltb}
use lib.ListN.{length, take, drop, replicate}
use borrow.Author.Tests.{ne_eqb, lt-ltb, le-ltb}
use Rattle.rules.specs.Lists.{written}
use Rattle.rules.specs.Numbers.{job_of}
use Rattle.rules.specs.Splits.{correct}
use Rattle.rules.specs.Plans.{Planned as IsPlanned, plan}
use Rattle.rules.specs.Refusals.{slice_too_short, no_correct_split}
use Rattle.rules.specs.Plannings.{plan_room}
use Rattle.rules.specs.Demands.{AsksNoMore}
use Rattle.rules.specs.Texts.{Sheet, OfForm}
use Rattle.rules.specs.Sheets.{sheet_fault, numbers_of, names_of, job_in}
use Rattle.rules.specs.SheetFaults.{IsRight}
use Rattle.rules.specs.Readings.{most_bytes, Reading, refused as unread, taken, Reads, of_form}
use Rattle.rules.specs.Pages.{Outcome, refused, released as released_with, planned_with, outcome_of, page, most_page_bytes}
use Rattle.rules.proofs.Lists.{not_holds}
use Rattle.rules.proofs.Written.{take_written, drop_written}
use Rattle.rules.proofs.Numbers.{job_fit}
use Rattle.rules.proofs.Plans.{plan_planned, plan_none, plan_exists, planned_plan, none_plan}
use Rattle.rules.proofs.Demands.{less_planned}
use Rattle.rules.proofs.Texts.{sheet_unique}
use Rattle.rules.proofs.Sheets.{sheet_job}
use Rattle.rules.proofs.Faults.{right_exactly}
use Rattle.rules.proofs.Readings.{one_reading, reading_taken, refused_numbers}
use Rattle.rules.proofs.Plannings.{planning_none, planning_planned}
use Rattle.rules.proofs.Pages.{HasJob, OutcomeWay, is_refused_lem, none_correct, is_released, outcome_ways, page_fits}
use Rattle.text.proofs.Promises.{some_reading}
use Rattle.job.specs.Refusals.{number_of}
use Rattle.job.specs.declared.refusals.Refusal.{Refusal}
use Rattle.job.specs.declared.refusals.Fault.{Fault}
use Rattle.planner.proofs.Promises.{in_numbers-injective}
use Rattle.report.specs.declared.Reported.{Reported as Answer}
use Rattle.report.proofs.Answers.{refusal_some}
use Rattle.report.specs.Promises.{Reported, refusal_in, place_in, in_numbers, reported_of, answer_of, page_after, Reports}

-- two outcomes that the promise allows are equal
pub one_report : {s old new after : List ℕ} {r t : Reported} → Reports s old r new → Reports s old t after → (r ≡ t) × (new ≡ after)
one_report {old} a b =
    let same = one_reading a.reads b.reads in (
      a.answered ∙ ap (λ (w : Reading). answer_of (outcome_of w) old) same ∙ sym b.answered,
      a.printed ∙ ap (λ (w : Reading). page_after (outcome_of w) old) same ∙ sym b.printed,
    )

-- ---- answers in numbers

same_refusal : (r q : Refusal) → number_of r ≡ number_of q → r ≡ q
same_refusal r q e =
    let same : Err r ≡ Err q = in_numbers-injective (Err r) (Err q) (ap (λ (n : ℕ). record { refusal = n; count = 0 }) e) in
    cc

same_end : (a b : Result (Unit {0}) Fault) → refusal_in a ≡ refusal_in b → place_in a ≡ place_in b → a ≡ b
same_end (Ok t) (Ok u) e h = refl
same_end (Ok t) (Err g) e h = absurd (refusal_some g.refusal (sym e))
same_end (Err f) (Ok u) e h = absurd (refusal_some f.refusal e)
same_end (Err f) (Err g) e h =
    ap (λ (r : Refusal). Err (record { refusal = r; place = f.place })) (same_refusal f.refusal g.refusal e)
    ∙ ap (λ (p : ℕ). Err (record { refusal = g.refusal; place = p })) h

-- no two answers have the same numbers
pub answers-injective : (a b : Answer) → in_numbers a ≡ in_numbers b → a ≡ b
answers-injective a b e =
    ap (λ (o : Result (Unit {0}) Fault). record { outcome = o; length = a.length })
    (same_end a.outcome b.outcome (ap (λ (x : Reported). x.refusal) e) (ap (λ (x : Reported). x.place) e))
    ∙ ap (λ (n : ℕ). record { outcome = b.outcome; length = n }) (ap (λ (x : Reported). x.length) e)

-- two answers that the promise allows are equal
pub one_answer : {s old new after : List ℕ} {a b : Answer} → Reports s old (in_numbers a) new → Reports s old (in_numbers b) after → (a ≡ b) × (new ≡ after)
one_answer {a = a} {b = b} x y = let one = one_report x y in (answers-injective a b one.0, one.1)

-- ---- every input has an outcome

-- whatever the text and the page lent
pub some_report : (s old : List ℕ) → (r : Reported) × (new : List ℕ) × Reports s old r new
some_report s old =
    let w = some_reading s in
    (_, _, record { reading = w.0; reads = w.1; answered = refl; printed = refl })

-- ---- texts that say a job

-- the text is of at most 8,192 bytes and of the form, and its counts, names and end number are right; this is what it says
pub record TextJob (s : List ℕ) : Type 0 where
  pub sheet : Sheet
  pub short : length s ≤ most_bytes
  pub form : OfForm s sheet
  pub right : IsRight sheet

module _ {s : List ℕ} (t : TextJob s) where
  faultless : sheet_fault t.sheet ≡ None
  faultless = (right_exactly t.sheet t.form).1 t.right

  job_known : job_of (numbers_of t.sheet) ≡ Some (job_in t.sheet)
  job_known = sheet_job s t.sheet t.form faultless

  few_columns_lem : length t.sheet.columns ≤ 16
  few_columns_lem = (job_fit (numbers_of t.sheet) (job_in t.sheet) job_known).few_columns

  module _ {w : Reading} (reads : Reads s w) where
    reads_taken : w ≡ taken (numbers_of t.sheet) (names_of t.sheet)
    reads_taken = one_reading reads (of_form t.sheet t.short t.form) ∙ reading_taken t.sheet faultless

    comes_to_none : plan (job_in t.sheet) ≡ None → outcome_of w ≡ refused no_correct_split 0
    unfolding outcome_of planned_with
    comes_to_none e =
        ap outcome_of reads_taken
        ∙ ap (planned_with (names_of t.sheet))
        (planning_none (numbers_of t.sheet) (replicate plan_room 0) (job_in t.sheet) job_known (omega arith) e)

    comes_to_split : (split : List ℕ) → plan (job_in t.sheet) ≡ Some split → outcome_of w ≡ released_with (names_of t.sheet) split
    unfolding outcome_of planned_with
    comes_to_split split e =
        ap outcome_of reads_taken
        ∙ ap (planned_with (names_of t.sheet))
        (planning_planned (numbers_of t.sheet) (replicate plan_room 0) (job_in t.sheet) job_known (omega arith) split e)

-- what the rules call a text that has a job is such a text, and its job is this one
module _ {s : List ℕ} {w : Reading} (h : HasJob s w) where
  abbrev text_job : TextJob s
  text_job = record { sheet = h.sheet; short = h.short; form = h.form; right = (right_exactly h.sheet h.form).0 h.right }

  text_plan : plan (job_in h.sheet) ≡ plan h.job
  text_plan = ap plan (some-injective (job_in h.sheet) h.job (sym (job_known text_job) ∙ h.known))

-- the call has released a split: the planner's split of the job that the text says, and the first places of the page hold the page of it, with the
-- names that the text has for its columns
pub record Released (s : List ℕ) (r : Reported) (new : List ℕ) : Type 0 where
  pub text : TextJob s
  pub split : List ℕ
  pub planned : IsPlanned (job_in text.sheet) split
  pub refusal : r.refusal ≡ 0
  pub place : r.place ≡ 0
  pub held : take r.length new ≡ page (released_with (names_of text.sheet) split)

module _ {s old new : List ℕ} {r : Reported} (a : Reports s old r new) where
  -- ---- a page that is too short

  module _ (h : length old < most_page_bytes) where
    short_answer : r ≡ reported_of (refused slice_too_short 0) 0
    short_answer = a.answered ∙ rw (lt-ltb (length old) most_page_bytes h)

    -- nothing is written then, and place and length are 0
    pub short_nothing : (r.place ≡ 0) × (r.length ≡ 0) × (new ≡ old)
    short_nothing = (
      ap (λ (x : Reported). x.place) short_answer,
      ap (λ (x : Reported). x.length) short_answer,
      a.printed ∙ rw (lt-ltb (length old) most_page_bytes h),
    )

  -- ---- a page with room

  module _ (h : most_page_bytes ≤ length old) where
    answer : {o : Outcome} → outcome_of a.reading ≡ o → r ≡ reported_of o (length (page o))
    answer e = a.answered ∙ rw (le-ltb (length old) most_page_bytes h, e)

    refusal_as : {o : Outcome} → outcome_of a.reading ≡ o → r.refusal ≡ (reported_of o (length (page o))).refusal
    refusal_as e = ap (λ (x : Reported). x.refusal) (answer e)

    place_as : {o : Outcome} → outcome_of a.reading ≡ o → r.place ≡ (reported_of o (length (page o))).place
    place_as e = ap (λ (x : Reported). x.place) (answer e)

    length_is : r.length ≡ length (page (outcome_of a.reading))
    length_is = go (outcome_of a.reading) refl
      where
        go : (o : Outcome) → outcome_of a.reading ≡ o → r.length ≡ length (page (outcome_of a.reading))
        go (refused number p) e = rw e (ap (λ (x : Reported). x.length) (answer e))
        go (released_with names split) e = rw e (ap (λ (x : Reported). x.length) (answer e))

    -- the page of what the text comes to stands in the first places, as many as are answered, and the rest stays
    pub page_whole : (take r.length new ≡ page (outcome_of a.reading)) × (drop r.length new ≡ drop r.length old)
    page_whole =
        let all = page (outcome_of a.reading) in
        let held : new ≡ written all old = a.printed ∙ rw (le-ltb (length old) most_page_bytes h) in
        let fits : length all ≤ length old = omega (arith, page_fits a.reads, h) in
        (rw (length_is, held) (take_written all old fits), rw (length_is, held) (drop_written all old))

    abbrev releases : (t : TextJob s) (split : List ℕ) → plan (job_in t.sheet) ≡ Some split → Released s r new
    releases t split e =
        let o = comes_to_split t a.reads split e in
        record {
          text = t;
          split = split;
          planned = plan_planned (job_in t.sheet) (few_columns_lem t) split e;
          refusal = refusal_as o;
          place = place_as o;
          held = page_whole.0 ∙ ap page o;
        }

    refuses_none : (t : TextJob s) → plan (job_in t.sheet) ≡ None → (r.refusal ≡ no_correct_split) × (r.place ≡ 0)
    refuses_none t e = let o = comes_to_none t a.reads e in (refusal_as o, place_as o)

    -- the text is refused; no split is correct for its job; or the planner's split of its job is released
    data Ends : Type 0 where
      by_text : Reads s (unread r.refusal r.place) → Ends
      by_none : (t : TextJob s) → plan (job_in t.sheet) ≡ None → Ends
      by_split : Released s r new → Ends

    ends : Ends
    unfolding outcome_of
    ends = go (outcome_ways a.reads)
      where
        go : {o : Outcome} → OutcomeWay s a.reading o → Ends
        go (is_refused_lem number p e b) = let o = ap outcome_of e in by_text (rw (refusal_as o, place_as o) b)
        go (none_correct t e) = by_none (text_job t) (text_plan t ∙ e)
        go (is_released t split e) = by_split (releases (text_job t) split (text_plan t ∙ e))

    -- with room there is no other number than 0, 1 to 6, and 9
    pub report_numbers : (r.refusal < 7) ⊎ (r.refusal ≡ no_correct_split)
    report_numbers = go ends
      where
        go : Ends → (r.refusal < 7) ⊎ (r.refusal ≡ no_correct_split)
        go (by_text b) = inl (refused_numbers b).1
        go (by_none t e) = inr (refuses_none t e).0
        go (by_split x) = inl (omega (arith, x.refusal))

    -- this number at this place
    abbrev pub Refuses : ℕ → ℕ → Type 0
    Refuses number p = (r.refusal ≡ number) × (r.place ≡ p)

    -- 1 to 6, at a place, exactly if that is the refusal of the text; what each of them means is said with the promise of `read`
    pub text_refused : (number p : ℕ) → 0 < number → number < 7 → Refuses number p ↔ Reads s (unread number p)
    unfolding outcome_of
    text_refused number p more less = (λ x. to x ends, λ b. from (ap outcome_of (one_reading a.reads b)))
      where
        to : Refuses number p → Ends → Reads s (unread number p)
        to x (by_text b) = rw (← x.0, ← x.1) b
        to x (by_none t e) = absurd (omega (arith, x.0, (refuses_none t e).0))
        to x (by_split y) = absurd (omega (arith, x.0, y.refusal))

        from : outcome_of a.reading ≡ refused number p → Refuses number p
        from o = (refusal_as o, place_as o)

    -- the page of a refusal says its number and place
    pub refused_page : (number p : ℕ) → 0 < number → Refuses number p → take r.length new ≡ page (refused number p)
    refused_page number p more x = go (outcome_of a.reading) refl
      where
        go : (o : Outcome) → outcome_of a.reading ≡ o → take r.length new ≡ page (refused number p)
        go (refused k q) e = rw (← x.0, ← x.1, refusal_as e, place_as e) (page_whole.0 ∙ ap page e)
        go (released_with names split) e = absurd (omega (arith, x.0, refusal_as e))

    -- 9 exactly if the text is right and no split is correct for its job
    pub none_refused : (r.refusal ≡ no_correct_split) ↔ ((t : TextJob s) × ((split : List ℕ) → correct (job_in t.sheet) split ≡ false))
    none_refused = (λ z. to z ends, λ x. (refuses_none x.0 (none_plan (job_in x.0.sheet) (few_columns_lem x.0) x.1)).0)
      where
        to : r.refusal ≡ no_correct_split → Ends → (t : TextJob s) × ((split : List ℕ) → correct (job_in t.sheet) split ≡ false)
        to z (by_text b) = absurd (omega (arith, (refused_numbers b).1, z))
        to z (by_none t e) = (t, λ split. not_holds (correct (job_in t.sheet) split) (plan_none (job_in t.sheet) (few_columns_lem t) e split))
        to z (by_split x) = absurd (omega (arith, x.refusal, z))

    -- and then at 0
    pub none_place : r.refusal ≡ no_correct_split → r.place ≡ 0
    none_place z = go ends
      where
        go : Ends → r.place ≡ 0
        go (by_text b) = absurd (omega (arith, (refused_numbers b).1, z))
        go (by_none t e) = (refuses_none t e).1
        go (by_split x) = x.place

    -- what is not refused is released
    pub released : r.refusal ≡ 0 → Released s r new
    released z = go ends
      where
        go : Ends → Released s r new
        go (by_text b) = absurd (omega (arith, (refused_numbers b).0, z))
        go (by_none t e) = absurd (omega (arith, (refuses_none t e).0, z))
        go (by_split x) = x

    -- a split is released exactly if the text is right and some split is correct for its job
    pub released_exactly : (r.refusal ≡ 0) ↔ ((t : TextJob s) × (split : List ℕ) × (correct (job_in t.sheet) split ≡ true))
    released_exactly = (to, from)
      where
        to : r.refusal ≡ 0 → (t : TextJob s) × (split : List ℕ) × (correct (job_in t.sheet) split ≡ true)
        to z = let x = released z in (x.text, x.split, x.planned.right)

        from : (t : TextJob s) × (split : List ℕ) × (correct (job_in t.sheet) split ≡ true) → r.refusal ≡ 0
        from (t, split, c) = let best = plan_exists (job_in t.sheet) (few_columns_lem t) split c in (releases t best.0 best.1).refusal

  -- 8 exactly if the page has fewer than 296 places; no text gives it
  pub report_short : eqb r.refusal slice_too_short ≡ ltb (length old) most_page_bytes
  report_short = go (dec_lt (length old) most_page_bytes)
    where
      other : (r.refusal < 7) ⊎ (r.refusal ≡ no_correct_split) → eqb r.refusal slice_too_short ≡ false
      other (inl l) = ne_eqb r.refusal slice_too_short (λ z. omega (arith, l, z))
      other (inr e) = rw e

      go : Dec (length old < most_page_bytes) → eqb r.refusal slice_too_short ≡ ltb (length old) most_page_bytes
      go (yes h) = rw (lt-ltb (length old) most_page_bytes h, short_answer h)
      go (no n) =
          let h : most_page_bytes ≤ length old = omega arith in
          rw (le-ltb (length old) most_page_bytes h) (other (report_numbers h))

  -- so what is released had room
  has_room : r.refusal ≡ 0 → most_page_bytes ≤ length old
  has_room z = go (dec_lt (length old) most_page_bytes)
    where
      go : Dec (length old < most_page_bytes) → most_page_bytes ≤ length old
      go (yes h) = absurd (omega (arith, z, ap (λ (x : Reported). x.refusal) (short_answer h)))
      go (no n) = omega arith

-- ---- two texts

-- demand 3 of the texts of two jobs: "if the first can be split so can the second, into no more extracts"
pub less_report : {s t old before new after : List ℕ} {r q : Reported} → Reports s old r new → Reports t before q after
    → (first : TextJob s) (second : TextJob t) → AsksNoMore (job_in first.sheet) (job_in second.sheet)
    → r.refusal ≡ 0 → most_page_bytes ≤ length before → (x : Released s r new) × (y : Released t q after) × (length y.split ≤ length x.split)
less_report a b first second asks z room =
    let x = released a (has_room a z) z in
    let one = job_in first.sheet in
    let same : x.text.sheet ≡ first.sheet = sheet_unique x.text.form first.form in
    let planned : IsPlanned one x.split = subst (λ (k : Sheet). IsPlanned (job_in k) x.split) same x.planned in
    let comes : plan one ≡ Some x.split = planned_plan one (few_columns_lem first) x.split planned in
    let less = less_planned one (job_in second.sheet) asks (few_columns_lem first) x.split comes in
    (x, releases b room second less.0 less.1, less.2)
