-- Lines and the number, read off the states of a text that leads to the end. Assumes nothing.
use mathlib.Core.Path.{◌≡◌, sym, ap, subst, ◌∙◌}
use mathlib.Core.Logic.{◌⊎◌, inl, inr, ⊎_elim}
use mathlib.Core.Bool.{true, cond}
use mathlib.Core.List.{List, [], ◌∷◌}
use Rattle.rules.specs.Options.{Some}
use Prim.Native.Nat.{ℕ, zero, suc, ◌+◌, ◌<◌, ◌≤◌}
use native.Mathlib.Omega.{arith}
use lib.Dec.{eqb}
use lib.ListN.{length}
use borrow.Author.Tests.{eqb-true, eqb-false}
use Rattle.rules.specs.Signs.{byte_at, Says, digit, line_end}
use Rattle.rules.specs.Texts.{Line, line, Lines, no_line, one_line, Number as NumberAt, one_digit, two_digits}
use Rattle.std.proofs.lemmas.Bool.{cases_Bool}
use Rattle.naming.specs.Sections.{key_of, width_of}
use Rattle.naming.specs.declared.sections.Section.{Section}
use Rattle.naming.proofs.KeyPlaces.{key_inside}
use Rattle.form.specs.declared.machine.Digits.{Digits}
use Rattle.form.specs.declared.machine.Digits.TheVariants.{Nothing, Zero, Other, Two}
use Rattle.form.specs.declared.machine.State.TheVariants.{Name, Number, Done}
use Rattle.form.specs.Order.{likely}
use Rattle.form.specs.Machine.{on_digit, number_ending, value_of, new_line, state_at}
use Rattle.naming.proofs.AllSections.{order, same_order}
use Rattle.form.proofs.Table.{in_order}
use Rattle.naming.proofs.KeysApart.{one_key}
use Rattle.form.proofs.Living.{LeadsToEnd, not_number, alive, goes, must, forks}
use Rattle.form.proofs.ReadKeys.{read_key}
use Rattle.form.proofs.ReadNames.{ValueFrom}

-- a number from place p on, and the end of its line
abbrev pub NumberFrom : List ℕ → ℕ → Type 0
NumberFrom s p = (q : ℕ) × (v : ℕ) × NumberAt s p q v × (byte_at s q ≡ line_end) × (state_at s (q + 1) ≡ Done)

-- a line begins at place p, of the section at place n of the order or of a later one, and its key leads to its value
pub record LineFrom (s : List ℕ) (n p : ℕ) : Type 0 where
  pub section : Section
  pub late : n ≤ order section
  pub said : Says s p (key_of section)
  pub value : state_at s (p + width_of section) ≡ value_of section

-- lines of a section from place p on, and behind them a line of a later one
abbrev pub LinesFrom : {A : Type 0} → List ℕ → Section → (ℕ → ℕ → A → Type 0) → ℕ → Type 0
LinesFrom {A} s section Value p =
    (q : ℕ) × (lines : List (Line A)) × Lines s (key_of section) Value p q lines × LineFrom s (suc (order section)) q

module _ {s : List ℕ} (led : LeadsToEnd s) where
  -- ---- lines

  -- behind a line of a section begins one of it or of a later one
  next_line : (before : Section) (p : ℕ) → state_at s p ≡ new_line before → LineFrom s (order before) p
  next_line before p e =
      let key = read_key led (Some before) p (likely before) e in
      record { section = key.section; late = in_order before key.section key.may; said = key.said; value = key.value }

  module _ {A : Type 0} (section : Section) (Value : ℕ → ℕ → A → Type 0) (valued : value_of section ≡ Name section 0 0)
      (read-value : (p : ℕ) → state_at s p ≡ Name section 0 0 → ValueFrom s section Value p) where
    lines_last : (p : ℕ) (here : LineFrom s (order section) p) → (order section ≡ order here.section → ⊥) → LinesFrom s section Value p
    lines_last p here other =
        let late = here.late in (
          p,
          [],
          no_line (λ said. other (ap order (one_key section here.section said here.said))),
          record { section = here.section; late = omega arith; said = here.said; value = here.value },
        )

    another_line : (p : ℕ) → Says s p (key_of section) → (value : ValueFrom s section Value (p + width_of section))
        → LinesFrom s section Value (value.0 + 1) → LinesFrom s section Value p
    another_line p said value more = (more.0, line p value.1 ∷ more.1, one_line said value.3 value.4 more.2, more.3)

    -- lines can be read wherever a line begins that is of no earlier section, and fewer than `left` bytes are left
    pub read_lines : (left p : ℕ) → length s < p + left → LineFrom s (order section) p → LinesFrom s section Value p
    read_lines zero p h here = let in_text = key_inside here.section here.said in absurd (omega arith)
    read_lines (suc left) p h here =
        let other = here.section in
        ⊎_elim
        (λ on.
        let same : other ≡ section = sym (same_order (eqb-true (order section) (order other) on)) in
        let at : state_at s (p + width_of section) ≡ value_of section =
        subst (λ (x : Section). state_at s (p + width_of x) ≡ value_of x) same here.value in
        let value = read-value (p + width_of section) (at ∙ valued) in
        let forward = value.2 in
        another_line p (subst (λ (x : Section). Says s p (key_of x)) same here.said) value
        (read_lines left (value.0 + 1) (omega arith) (next_line section (value.0 + 1) value.5)))
        (λ over. lines_last p here (eqb-false (order section) (order other) over))
        (cases_Bool (eqb (order section) (order other)))

  -- ---- the number

  -- an LF or a digit follows
  number_step : (p : ℕ) (digits : Digits) → state_at s p ≡ Number digits
      → ((byte_at s p ≡ line_end) × (state_at s (p + 1) ≡ number_ending digits))
      ⊎ ((digit (byte_at s p) ≡ true)
      × (state_at s (p + 1) ≡ on_digit digits (byte_at s p)))
  number_step p digits e =
      let b = byte_at s p in
      ⊎_elim (λ ended. inl (eqb-true b line_end ended.0, ended.1)) (λ on. inr (must led (p + 1) (digit b) _ on.1))
      (forks led (p + 1) (eqb b line_end) _ _ (goes led p (Number digits) not_number e))

  -- behind a first digit 0
  zero_number : (p : ℕ) → digit (byte_at s p) ≡ true → state_at s (p + 1) ≡ Number Zero → NumberFrom s p
  zero_number p d e =
      ⊎_elim
      (λ ended. (p + 1, _, one_digit d, ended.0, ended.1))
      (λ more. absurd (alive led (p + 1 + 1) more.1))
      (number_step (p + 1) Zero e)

  -- behind two digits
  two_number : (p : ℕ) → digit (byte_at s p) ≡ true → (byte_at s p ≡ 48 → ⊥) → digit (byte_at s (p + 1)) ≡ true
      → state_at s (p + 1 + 1) ≡ Number Two → NumberFrom s p
  two_number p d n d' e =
      let place : p + 1 + 1 ≡ p + 2 = omega arith in
      ⊎_elim
      (λ ended. (p + 2, _, two_digits d n d', ended.0, ended.1))
      (λ more. absurd (alive led (p + 2 + 1) more.1))
      (number_step (p + 2) Two (subst (λ (q : ℕ). state_at s q ≡ Number Two) place e))

  -- behind another first digit
  other_number : (p : ℕ) → digit (byte_at s p) ≡ true → (byte_at s p ≡ 48 → ⊥) → state_at s (p + 1) ≡ Number Other → NumberFrom s p
  other_number p d n e =
      ⊎_elim
      (λ ended. (p + 1, _, one_digit d, ended.0, ended.1))
      (λ on. two_number p d n on.0 on.1)
      (number_step (p + 1) Other e)

  first_digit : (p : ℕ) → digit (byte_at s p) ≡ true → state_at s (p + 1) ≡ cond (eqb (byte_at s p) 48) (Number Zero) (Number Other)
      → NumberFrom s p
  first_digit p d e =
      let b = byte_at s p in
      ⊎_elim
      (λ zeroth. zero_number p d zeroth.1)
      (λ other. other_number p d (eqb-false b 48 other.0) other.1)
      (forks led (p + 1) (eqb b 48) _ _ e)

  -- the number can be read behind its key
  pub read_number : (p : ℕ) → state_at s p ≡ Number Nothing → NumberFrom s p
  read_number p e =
      ⊎_elim
      (λ ended. absurd (alive led (p + 1) ended.1))
      (λ on. first_digit p on.0 on.1)
      (number_step p Nothing e)
