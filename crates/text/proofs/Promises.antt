-- What the promise of the call says: that each text has one answer, which refusal comes when and at which place, and what a text without a fault
-- gives. Assumes nothing.
use mathlib.Core.Path.{◌≡◌, refl, sym, ap, ◌∙◌}
use mathlib.Core.Bool.{false}
use mathlib.Core.List.{List, []}
use mathlib.Core.Logic.{◌⊎◌, inl, inr, ◌↔◌}
use Rattle.std.specs.Prelude.{cond, eqb, Result, Ok, Err}
use Rattle.rules.specs.Options.{None, Some}
use Prim.Native.Nat.{ℕ, ◌≤◌, ◌<◌}
use native.Mathlib.Decide.{dec_lt}
use native.Mathlib.Omega.{arith}
use lib.ListN.{length}
use Rattle.rules.specs.Numbers.{Numbers, unfit, job_of}
use Rattle.rules.specs.Refusals.{text_too_long, text_not_of_form}
use Rattle.rules.specs.Texts.{Sheet, OfForm, HasForm, StopsAt}
use Rattle.rules.specs.Sheets.{sheet_fault, numbers_of, names_of, job_in}
use Rattle.rules.specs.SheetFaults.{IsRight}
use Rattle.rules.specs.Readings.{most_bytes, Reading, refused, taken, reading_of, Reads, too_long, not_of_form, of_form}
use Rattle.rules.proofs.Sheets.{sheet_fit, sheet_job}
use Rattle.rules.proofs.Faults.{right_exactly}
use Rattle.rules.proofs.Readings.{one_reading, reading_taken, refused_numbers, Accepted, Faulty, taken_exactly, too_long_exactly, not_of_form_exactly, faulty_exactly}
use Rattle.job.specs.Records.{numbers_in, no_job}
use Rattle.job.proofs.Records.{fit_numbers}
use Rattle.form.proofs.Decided.{decided}
use Rattle.job.specs.declared.refusals.Refusal.{Refusal as Kind}
use Rattle.job.specs.declared.refusals.Refusal.TheVariants.{TextTooLong, TextNotOfForm, TooMany, NameTwice, NameUnknown, EndNumberOther}
use Rattle.job.specs.declared.refusals.Refusal.TheVariants.{NumbersUnfit, SliceTooShort, NoCorrectSplit}
use Rattle.job.specs.declared.refusals.Fault.{Fault}
use Rattle.text.specs.declared.JobRead.{JobRead}
use Rattle.text.specs.Tables.{name_table}
use Rattle.text.specs.Promises.{Answer, read_of, Takes, in_numbers}

-- every text has a reading; that it is the only one is a law of the rules
pub some_reading : (s : List ℕ) → (w : Reading) × Reads s w
some_reading s = go (dec_lt most_bytes (length s)) (decided s)
  where
    go : Dec (most_bytes < length s) → HasForm s ⊎ ((p : ℕ) × StopsAt s p) → (w : Reading) × Reads s w
    go (yes long) d = (refused text_too_long most_bytes, too_long long)
    go (no n) (inl (sheet, form)) = (reading_of sheet, of_form sheet (omega arith) form)
    go (no n) (inr (p, stops)) = (refused text_not_of_form p, not_of_form (omega arith) stops)

-- two answers that the promise allows are equal
pub one_answer : {s : List ℕ} {r t : Answer} → Takes s r → Takes s t → r ≡ t
one_answer a b = a.answered ∙ ap read_of (one_reading a.reads b.reads) ∙ sym b.answered

-- a text that was read: what it says, and that this is of the form and without a fault; the numbers of the answer's job are the text's, they are
-- fit, and they stand for the job that the text says; the names are those of its columns
pub record Taken (s : List ℕ) (r : Answer) : Type 0 where
  pub sheet : Sheet
  pub form : OfForm s sheet
  pub right : IsRight sheet
  pub place : r.place ≡ 0
  pub numbers : numbers_in r.job ≡ numbers_of sheet
  pub fit : unfit (numbers_in r.job) ≡ false
  pub job : job_of (numbers_in r.job) ≡ Some (job_in sheet)
  pub names : r.names ≡ name_table (names_of sheet)

through : {A B C : Type 0} → A ↔ B → B ↔ C → A ↔ C
through f g = (λ x. g.0 (f.0 x), λ x. f.1 (g.1 x))

module _ {s : List ℕ} {r : Answer} (a : Takes s r) where
  answer_as : {w : Reading} → Reads s w → r ≡ read_of w
  answer_as b = a.answered ∙ ap read_of (one_reading a.reads b)

  reading_as : (r.refusal ≡ 0 → ⊥) → Reads s (refused r.refusal r.place)
  reading_as n = go a.reading a.reads a.answered
    where
      go : (w : Reading) → Reads s w → r ≡ read_of w → Reads s (refused r.refusal r.place)
      go (refused number place) b e = rw e b
      go (taken q names) b e = absurd (n (ap (λ (t : Answer). t.refusal) e))

  -- "A refused text returns the number, the place and a job with no columns, sets or marks", and no names
  pub refused_empty : (r.refusal ≡ 0 → ⊥) → (r.job ≡ no_job) × (r.names ≡ name_table [])
  refused_empty n =
      let e = answer_as (reading_as n) in
      (ap (λ (t : Answer). t.job) e, ap (λ (t : Answer). t.names) e)

  -- this number at this place
  abbrev pub Refuses : ℕ → ℕ → Type 0
  Refuses number p = (r.refusal ≡ number) × (r.place ≡ p)

  refuses : (number p : ℕ) → (number ≡ 0 → ⊥) → Refuses number p ↔ Reads s (refused number p)
  refuses number p n = (to, from)
    where
      to : Refuses number p → Reads s (refused number p)
      to e = rw (← e.0, ← e.1) (reading_as (λ z. n (sym e.0 ∙ z)))

      from : Reads s (refused number p) → Refuses number p
      from b = let e = answer_as b in (ap (λ (t : Answer). t.refusal) e, ap (λ (t : Answer). t.place) e)

  -- 1 exactly if the text is over 8,192 bytes, and then at 8192
  pub long_refused : (p : ℕ) → Refuses text_too_long p ↔ ((most_bytes < length s) × (p ≡ most_bytes))
  long_refused p = through (refuses text_too_long p (λ z. omega arith)) (too_long_exactly s p)

  -- else 2 exactly if the text is not of the form, at the first byte after which no continuation could be, or at the text's end
  pub form_refused : (p : ℕ) → Refuses text_not_of_form p ↔ ((length s ≤ most_bytes) × StopsAt s p)
  form_refused p = through (refuses text_not_of_form p (λ z. omega arith)) (not_of_form_exactly s p)

  -- else 3, 4, 5 or 6 exactly if what the text says has that fault at that place
  pub fault_refused : (number p : ℕ) → text_not_of_form < number → Refuses number p ↔ Faulty s number p
  fault_refused number p h = through (refuses number p (λ z. omega arith)) (faulty_exactly s number p h)

  -- there is no other number
  pub refusal_numbers : r.refusal < 7
  refusal_numbers = go a.reading a.reads a.answered
    where
      go : (w : Reading) → Reads s w → r ≡ read_of w → r.refusal < 7
      go (refused number p) b e = let n = refused_numbers b in omega (arith, ap (λ (t : Answer). t.refusal) e)
      go (taken q names) b e = omega (arith, ap (λ (t : Answer). t.refusal) e)

  accepted : r.refusal ≡ 0 → (q : Numbers) × (names : List (List ℕ)) × Accepted s q names
  accepted z = go a.reading a.reads a.answered
    where
      go : (w : Reading) → Reads s w → r ≡ read_of w → (q : Numbers) × (names : List (List ℕ)) × Accepted s q names
      go (refused number p) b e = let n = refused_numbers b in absurd (omega (arith, ap (λ (t : Answer). t.refusal) e, z))
      go (taken q names) b e = (q, names, (taken_exactly s q names).0 b)

  answer_of_lem : (sheet : Sheet) → length s ≤ most_bytes → OfForm s sheet → sheet_fault sheet ≡ None → r ≡ read_of (taken (numbers_of sheet) (names_of sheet))
  answer_of_lem sheet short form right =
      answer_as {w = taken (numbers_of sheet) (names_of sheet)} (rw (← (reading_taken sheet right)) (of_form sheet short form))

  -- a text is read exactly if it is not too long and of the form, and its counts, names and end number are right
  pub read_exactly : (r.refusal ≡ 0) ↔ ((sheet : Sheet) × (length s ≤ most_bytes) × OfForm s sheet × IsRight sheet)
  read_exactly = (to, from)
    where
      to : r.refusal ≡ 0 → (sheet : Sheet) × (length s ≤ most_bytes) × OfForm s sheet × IsRight sheet
      to z = let k = (accepted z).2 in (k.sheet, k.short, k.form, k.right)

      from : (sheet : Sheet) × (length s ≤ most_bytes) × OfForm s sheet × IsRight sheet → r.refusal ≡ 0
      from h = ap (λ (t : Answer). t.refusal) (answer_of_lem h.0 h.1 h.2 ((right_exactly h.0 h.2).1 h.3))

  -- and then the answer is what it says
  pub is_taken : r.refusal ≡ 0 → Taken s r
  is_taken z =
      let k = (accepted z).2 in
      let None : sheet_fault k.sheet ≡ None = (right_exactly k.sheet k.form).1 k.right in
      let e = answer_of_lem k.sheet k.short k.form None in
      let fit : unfit (numbers_of k.sheet) ≡ false = sheet_fit s k.sheet k.form None in
      let held : numbers_in r.job ≡ numbers_of k.sheet = ap (λ (t : Answer). numbers_in t.job) e ∙ fit_numbers (numbers_of k.sheet) fit in
      record {
        sheet = k.sheet;
        form = k.form;
        right = k.right;
        place = ap (λ (t : Answer). t.place) e;
        numbers = held;
        fit = rw held fit;
        job = rw held (sheet_job s k.sheet k.form None);
        names = ap (λ (t : Answer). t.names) e;
      }

-- ---- answers in numbers

-- the refusal that has the number
named : ℕ → Kind
named number =
    cond (eqb number 1) TextTooLong (cond (eqb number 2) TextNotOfForm (cond (eqb number 3) TooMany (cond (eqb number 4) NameTwice
    (cond (eqb number 5) NameUnknown (cond (eqb number 6) EndNumberOther (cond (eqb number 7) NumbersUnfit
    (cond (eqb number 8) SliceTooShort NoCorrectSplit)))))))

-- the answer that has these numbers
answer_named : Answer → Result JobRead Fault
answer_named a = cond (eqb a.refusal 0) (Ok (record { job = a.job; names = a.names })) (Err (record { refusal = named a.refusal; place = a.place }))

numbers_kept : (r : Result JobRead Fault) → answer_named (in_numbers r) ≡ r
unfolding answer_named named
numbers_kept (Ok read) = refl
numbers_kept (Err fault) = go fault.refusal
  where
    go : (k : Kind) → answer_named (in_numbers (Err (record { refusal = k; place = fault.place }))) ≡ Err (record { refusal = k; place = fault.place })
    go TextTooLong = refl
    go TextNotOfForm = refl
    go TooMany = refl
    go NameTwice = refl
    go NameUnknown = refl
    go EndNumberOther = refl
    go NumbersUnfit = refl
    go SliceTooShort = refl
    go NoCorrectSplit = refl

-- no two answers have the same numbers
pub in_numbers-injective : (r t : Result JobRead Fault) → in_numbers r ≡ in_numbers t → r ≡ t
in_numbers-injective r t e = sym (numbers_kept r) ∙ ap answer_named e ∙ numbers_kept t

-- so a text has one answer
pub one_result : {s : List ℕ} (r t : Result JobRead Fault) → Takes s (in_numbers r) → Takes s (in_numbers t) → r ≡ t
one_result r t a b = in_numbers-injective r t (one_answer a b)
