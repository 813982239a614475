-- What reading and planning a text come to together, and the ways in which the call ends. Assumes nothing.
use mathlib.Core.Path.{◌≡◌, refl, sym, ap, ◌∙◌}
use mathlib.Core.Bool.{Bool, true, false}
use mathlib.Core.List.{List}
use Prim.Native.Nat.{ℕ, ◌≤◌, ◌<◌, min}
use native.Mathlib.Omega.{arith}
use lib.Dec.{ltb}
use lib.ListN.{length, take, replicate, length-replicate, length-map}
use borrow.Author.Tests.{ltb-false, lt-ltb, le-ltb}
use Rattle.std.specs.Prelude.{Result, Ok, Err}
use Rattle.rules.specs.Lists.{written}
use Rattle.rules.specs.Numbers.{Numbers}
use Rattle.rules.specs.Refusals.{slice_too_short}
use Rattle.rules.specs.Sheets.{numbers_of, names_of}
use Rattle.rules.specs.Readings.{Reading, refused as unread, taken, Reads}
use Rattle.rules.specs.Plannings.{Planning, refused as unplanned, planned, plan_room, planning, extracts_after}
use Rattle.rules.specs.Pages.{Outcome, refused, released, planned_with, outcome_of, page, most_page_bytes}
use Rattle.rules.proofs.Written.{length_written, take_written}
use Rattle.rules.proofs.Numbers.{fit_of_job, job_fit}
use Rattle.rules.proofs.Plans.{plan_planned}
use Rattle.rules.proofs.Useful.{planned_few}
use Rattle.rules.proofs.Readings.{refused_numbers}
use Rattle.rules.proofs.Plannings.{Way, is_unfit, no_room, no_split, is_planned, planning_ways}
use Rattle.rules.proofs.Sheets.{counts}
use Rattle.rules.proofs.SheetNames.{names_short, names_nonzero}
use Rattle.rules.proofs.Pages.{HasJob, OutcomeWay, is_refused_lem, none_correct, is_released, outcome_ways, page_fits}
use Rattle.job.specs.Records.{numbers_in}
use Rattle.job.proofs.Records.{fit_numbers}
use Rattle.job.specs.Refusals.{number_of}
use Rattle.job.specs.declared.refusals.Refusal.{Refusal}
use Rattle.job.specs.declared.refusals.Refusal.TheVariants.{TextTooLong, TextNotOfForm, TooMany, NameTwice, NameUnknown, EndNumberOther}
use Rattle.job.specs.declared.refusals.Refusal.TheVariants.{NumbersUnfit, SliceTooShort, NoCorrectSplit}
use Rattle.job.specs.declared.refusals.Fault.{Fault}
use Rattle.writing.specs.Added.{Adds}
use Rattle.writing.specs.Puts.{Puts}
use Rattle.writing.specs.declared.Page.{Page}
use Rattle.text.specs.declared.JobRead.{JobRead}
use Rattle.text.specs.Promises.{Answer as JobTold, read_of, Takes, in_numbers as told}
use Rattle.text.proofs.Promises.{some_reading}
use Rattle.planner.specs.Promises.{Planned, planned_of, Plans, in_numbers as plan_numbers}
use Rattle.report.specs.Naming.{Named, PutsNamed}
use Rattle.report.specs.Taken.{Filled, Comes}
use Rattle.report.specs.declared.Split.{Split as SplitNamed}
use Rattle.report.specs.Promises.{Reported, reported_of, Prints, ended, Ends, Reports}
use Rattle.report.proofs.NamesListed.{named_puts}
use Rattle.report.proofs.Printing.{prints}

-- a page that is too short for a longest one
pub reports_short : (s old : List ℕ) → length old < most_page_bytes → Reports s old (reported_of (refused slice_too_short 0) 0) old
reports_short s old h =
    let w = some_reading s in
    let e = lt-ltb (length old) most_page_bytes h in
    record { reading = w.0; reads = w.1; answered = rw e; printed = rw e }

-- a page that has room holds the whole text
pub reports_whole : {s : List ℕ} {w : Reading} {o : Outcome} {old new : List ℕ} {r : Reported} → Reads s w → outcome_of w ≡ o → most_page_bytes ≤ length old
    → Prints o old r new → Reports s old r new
reports_whole {s} {w} {o} {old} {new} {r} reads e h p =
    let room = le-ltb (length old) most_page_bytes h in
    let fits : length (page o) ≤ most_page_bytes = rw (← e) (page_fits reads) in
    let whole : min (length (page o)) (length old) ≡ length (page o) = omega (arith, fits, h) in
    record { reading = w; reads = reads; answered = rw (room, e) (p.answered ∙ ap (reported_of o) whole); printed = rw (room, e) p.printed }

-- so does the page of what a text comes to, put on it from its first place on
pub reports_put : {s : List ℕ} {w : Reading} (result : Result (Unit {0}) Fault) {old new : List ℕ} {bytes : ℕ} → Reads s w
    → ((n : ℕ) → ended result n ≡ reported_of (outcome_of w) n) → most_page_bytes ≤ length old → Adds (page (outcome_of w)) 0 old bytes new
    → Reports s old (ended result bytes) new
reports_put {w = w} result {old} {new} {bytes} reads ends h a = rw (ends bytes) (reports_whole reads refl h (prints (outcome_of w) old bytes new a))

-- ---- what reading and planning come to

-- no refusal has number 0
pub refusal_some : (r : Refusal) → number_of r ≡ 0 → ⊥
refusal_some TextTooLong e = omega arith
refusal_some TextNotOfForm e = omega arith
refusal_some TooMany e = omega arith
refusal_some NameTwice e = omega arith
refusal_some NameUnknown e = omega arith
refusal_some EndNumberOther e = omega arith
refusal_some NumbersUnfit e = omega arith
refusal_some SliceTooShort e = omega arith
refusal_some NoCorrectSplit e = omega arith

module _ {s : List ℕ} {t : JobTold} (a : Takes s t) where
  -- a text that is not read comes to its refusal
  pub not_read : (t.refusal ≡ 0 → ⊥) → outcome_of a.reading ≡ refused t.refusal t.place
  unfolding outcome_of
  not_read n = go a.reading a.answered
    where
      go : (w : Reading) → t ≡ read_of w → outcome_of w ≡ refused t.refusal t.place
      go (unread number place) e = rw e
      go (taken q names) e = absurd (n (ap (λ (x : JobTold). x.refusal) e))

  module _ (z : t.refusal ≡ 0) where
    pub has_job : HasJob s a.reading
    has_job = go (outcome_ways a.reads)
      where
        go : {o : Outcome} → OutcomeWay s a.reading o → HasJob s a.reading
        go (is_refused_lem number place e b) =
            let known : t.refusal ≡ number = ap (λ (x : JobTold). x.refusal) (a.answered ∙ ap read_of e) in
            absurd (omega (arith, (refused_numbers b).0, known, z))
        go (none_correct job e) = job
        go (is_released job split e) = job

    answer : t ≡ read_of (taken (numbers_of has_job.sheet) (names_of has_job.sheet))
    answer = a.answered ∙ ap read_of has_job.said

    -- the job of a text that is read holds fit numbers
    pub filled : Filled t.job
    filled =
        record {
          numbers = numbers_of has_job.sheet;
          fit = fit_of_job (numbers_of has_job.sheet) has_job.job has_job.known;
          holds = ap (λ (x : JobTold). x.job) answer;
        }

    -- its names stand in the table
    pub named : Named t.names (names_of has_job.sheet)
    unfolding names_of
    named =
        let sheet = has_job.sheet in
        record {
          held = ap (λ (x : JobTold). x.names) answer;
          few = rw (length-map sheet.columns (λ x. x.name)) (counts s sheet has_job.form has_job.right).few_columns;
          short = names_short s sheet has_job.form;
          nonzero = names_nonzero s sheet has_job.form;
        }

    module _ {r : Planned} {new : List ℕ} (p : Plans (numbers_in t.job) (replicate plan_room 0) r new) where
      abbrev room : List ℕ
      room = replicate plan_room 0

      numbers : numbers_in t.job ≡ numbers_of has_job.sheet
      numbers =
          ap (λ (x : JobTold). numbers_in x.job) answer
          ∙ fit_numbers (numbers_of has_job.sheet) (fit_of_job (numbers_of has_job.sheet) has_job.job has_job.known)

      abbrev ways : Planning
      ways = planning (numbers_of has_job.sheet) room

      answered : r ≡ planned_of ways
      answered = p.answered ∙ ap (λ (q : Numbers). planned_of (planning q room)) numbers

      outcome : outcome_of a.reading ≡ planned_with (names_of has_job.sheet) ways
      unfolding outcome_of
      outcome = ap outcome_of has_job.said

      -- a job that is not planned comes to the planner's refusal, at 0
      pub not_planned : (r.refusal ≡ 0 → ⊥) → outcome_of a.reading ≡ refused r.refusal 0
      unfolding planned_with
      not_planned n = go ways refl
        where
          go : (w : Planning) → ways ≡ w → outcome_of a.reading ≡ refused r.refusal 0
          go (unplanned number) f =
              let known : r.refusal ≡ number = ap (λ (x : Planned). x.refusal) (answered ∙ ap planned_of f) in
              rw known (outcome ∙ ap (planned_with (names_of has_job.sheet)) f)
          go (planned split) f = absurd (n (ap (λ (x : Planned). x.refusal) (answered ∙ ap planned_of f)))

      record Split : Type 0 where
        split : List ℕ
        is : ways ≡ planned split
        few : length split ≤ plan_room

      is_split_lem : r.refusal ≡ 0 → Split
      is_split_lem z = go ways refl (planning_ways (numbers_of has_job.sheet) room)
        where
          refusal : (w : Planning) → ways ≡ w → (planned_of w).refusal ≡ 0
          refusal w f = sym (ap (λ (x : Planned). x.refusal) (answered ∙ ap planned_of f)) ∙ z

          go : (w : Planning) → ways ≡ w → Way (numbers_of has_job.sheet) room w → Split
          go w f (is_unfit e) = absurd (omega (arith, refusal w f))
          go w f (no_room job known h) = absurd (omega (arith, refusal w f))
          go w f (no_split job known h e) = absurd (omega (arith, refusal w f))
          go w f (is_planned job split known h e) =
              let fit = job_fit (numbers_of has_job.sheet) job known in
              record {
                split = split;
                is = f;
                few = omega (arith, planned_few job split (plan_planned job fit.few_columns split e), fit.few_needs);
              }

      count : (x : Split) → r.count ≡ length x.split
      count x = ap (λ (d : Planned). d.count) (answered ∙ ap planned_of x.is)

      extracts : (x : Split) → new ≡ written x.split room
      unfolding extracts_after
      extracts x = p.extracts ∙ ap (λ (q : Numbers). extracts_after (planning q room) room) numbers ∙ ap (λ (w : Planning). extracts_after w room) x.is

      -- the extracts have their places
      pub count_within : r.refusal ≡ 0 → r.count ≤ length new
      count_within z =
          let x = is_split_lem z in
          omega (arith, count x, x.few, ap length (extracts x) ∙ length_written x.split room ∙ length-replicate {A = ℕ} plan_room 0)

      -- a job that is planned comes to its extracts
      pub planned_released : r.refusal ≡ 0 → outcome_of a.reading ≡ released (names_of has_job.sheet) (take r.count new)
      unfolding planned_with
      planned_released z =
          let x = is_split_lem z in
          let long = length-replicate {A = ℕ} plan_room 0 in
          let all : take r.count new ≡ x.split
          = ap (λ (k : ℕ). take k new) (count x) ∙ ap (take (length x.split)) (extracts x)
          ∙ take_written x.split room (omega (arith, x.few, long)) in
          outcome ∙ ap (planned_with (names_of has_job.sheet)) x.is ∙ ap (released (names_of has_job.sheet)) (sym all)

-- ---- what a text comes to

-- a text that is not read
pub comes_unread : {s : List ℕ} {fault : Fault} → Takes s (told (Err fault)) → Comes s (Err fault)
comes_unread {fault} a = record { reading = a.reading; reads = a.reads; outcome = not_read a (refusal_some fault.refusal) }

module _ {s : List ℕ} {read : JobRead} (a : Takes s (told (Ok read))) {new : List ℕ} where
  -- one whose job is not planned
  pub comes_unplanned : {refusal : Refusal} → Plans (numbers_in read.job) (replicate plan_room 0) (plan_numbers (Err refusal)) new
      → Comes s (Err (record { refusal = refusal; place = 0 }))
  comes_unplanned {refusal} p = record { reading = a.reading; reads = a.reads; outcome = not_planned a refl p (refusal_some refusal) }

  -- and one whose job is
  pub comes_planned : {count : ℕ} → Plans (numbers_in read.job) (replicate plan_room 0) (plan_numbers (Ok count)) new
      → Comes s (Ok (record { names = read.names; extracts = new; count = count }))
  comes_planned p =
      record {
        reading = a.reading;
        reads = a.reads;
        outcome = record {
          names = names_of (has_job a refl).sheet;
          named = named a refl;
          few = count_within a refl p refl;
          is = planned_released a refl p refl;
        };
      }

-- its page is that of a split
pub ends_released : {s : List ℕ} {split : SplitNamed} {before after : Page} (k : Comes s (Ok split))
    → PutsNamed split.names (λ names. page (released names (take split.count split.extracts))) before after → Ends s (Ok tt) before after
ends_released k p =
    let o = k.outcome in
    record { reading = k.reading; reads = k.reads; ends = λ bytes. rw o.is; puts = rw o.is (named_puts p o.names o.named) }

-- or that of a refusal
pub ends_refused : {s : List ℕ} {fault : Fault} {before after : Page} (k : Comes s (Err fault))
    → Puts (page (refused (number_of fault.refusal) fault.place)) before after → Ends s (Err fault) before after
ends_refused k p = record { reading = k.reading; reads = k.reads; ends = λ bytes. rw k.outcome; puts = rw k.outcome p }

-- ---- what a caller has

length_reported : (o : Outcome) (bytes : ℕ) → (reported_of o bytes).length ≡ bytes
length_reported (refused number place) bytes = refl
length_reported (released names split) bytes = refl

-- the answered length lies within the page
pub length_within : {s old new : List ℕ} {r : Reported} → Reports s old r new → r.length ≤ length new
length_within {s} {old} {new} {r} a = go (ltb (length old) most_page_bytes) refl
  where
    o : Outcome
    o = outcome_of a.reading

    go : (b : Bool) → ltb (length old) most_page_bytes ≡ b → r.length ≤ length new
    go true e =
        let none : r.length ≡ 0 = ap (λ (x : Reported). x.length) (rw e at a.answered) in
        omega (arith, none)
    go false e =
        let bytes : r.length ≡ length (page o) = ap (λ (x : Reported). x.length) (rw e at a.answered) ∙ length_reported o (length (page o)) in
        let long : length new ≡ length old = ap length (rw e at a.printed) ∙ length_written (page o) old in
        omega (arith, bytes, long, page_fits a.reads, ltb-false (length old) most_page_bytes e)
