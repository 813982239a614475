-- From the form to the machine: each part of a text of the form leads from the state before it to the state behind it. Assumes nothing.
use mathlib.Core.Path.{◌≡◌, refl, sym, ap, subst, ◌∙◌}
use mathlib.Core.Bool.{Bool, true, false, cond}
use mathlib.Core.List.{List}
use Rattle.rules.specs.Options.{Option, None, Some}
use Prim.Native.Nat.{ℕ, zero, suc, ◌+◌, ◌-◌, ◌<◌, ◌≤◌}
use native.Mathlib.Omega.{arith}
use lib.Dec.{ltb, eqb, lit<, lit≤}
use lib.ListN.{length}
use borrow.Author.Tests.{lt-ltb, ne_eqb, eqb-true, eqb-false}
use Rattle.rules.specs.Signs.{byte_at, line_end, comma, plus, ampersand, bar, bracket_open, bracket_close, Says, letter, digit, in_name}
use Rattle.rules.specs.Names.{Name as NameAt, Names, Spot, last_name, more_names, most_name_bytes}
use Rattle.rules.specs.Phrases.{Kind, item, list, rest, Join, ors, ands, operand, sign_of, Formula, most_brackets}
use Rattle.rules.specs.Phrases.{Stands, first, last, next, name, bracketed}
use Rattle.rules.specs.Texts.{Line, Lines, no_line, one_line, Number as NumberAt, one_digit, two_digits, HasForm}
use Rattle.rules.proofs.Signs.{inside, named_inside}
use Rattle.rules.proofs.Names.{name_begins, name_some}
use Rattle.std.proofs.lemmas.Bool.{cond-true, cond-false}
use Rattle.naming.specs.Sections.{key_of, width_of}
use Rattle.naming.specs.declared.sections.Section.{Section}
use Rattle.naming.specs.declared.sections.Section.TheVariants.{Columns, Forbid, Need, End}
use Rattle.naming.proofs.KeyPlaces.{width_bounds}
use Rattle.form.specs.declared.machine.Digits.{Digits}
use Rattle.form.specs.declared.machine.Digits.TheVariants.{Nothing, Zero, Other, Two}
use Rattle.form.specs.declared.machine.State.{State}
use Rattle.form.specs.declared.machine.State.TheVariants.{Key, Name, Closed, Number, Done, Wrong}
use Rattle.form.specs.Order.{follows, likely}
use Rattle.form.specs.Machine.{value_of, new_line, joining, behind_item, on_digit, number_ending, step, begin, run, state_at}
use Rattle.naming.proofs.AllSections.{order, same_order}
use Rattle.form.proofs.Table.{later_may}
use Rattle.naming.proofs.KeysApart.{key_bytes}
use Rattle.form.proofs.Signs.{digit_not, line_over}
use Rattle.form.proofs.Runs.{state_next, state_by, state_said, state_all}
use Rattle.form.proofs.RunKeys.{run_key}

module _ (s : List ℕ) where
  state_from : (p : ℕ) (state : State) → p < length s → state_at s p ≡ state → state_at s (p + 1) ≡ step state (byte_at s p)
  state_from p state h e = state_next s p h ∙ ap (λ (x : State). step x (byte_at s p)) e

  -- ---- keys

  -- a key that may stand behind this leads to its value
  key_walk : (behind : Option Section) (section : Section) (p : ℕ) → follows behind section ≡ true → Says s p (key_of section)
      → (other : Section) → state_at s p ≡ Key other behind 0 → state_at s (p + width_of section) ≡ value_of section
  key_walk behind section p may said other e =
      let some = width_bounds section in
      state_said said (key_bytes section)
      ∙ ap (λ (state : State). run state (key_of section)) e
      ∙ run_key behind section may (width_of section - 1) other 0 (omega arith) (λ i h. absurd (omega arith))

  -- ---- names

  -- an item of a section stands before place q, and so many brackets are open there
  abbrev Passed : Section → ℕ → ℕ → Type 0
  Passed section opened q = q < length s → state_at s (q + 1) ≡ behind_item section opened (byte_at s q)

  behind_by : (section : Section) (opened q b : ℕ) → Passed section opened q → byte_at s q ≡ b → 0 < b
      → state_at s (q + 1) ≡ behind_item section opened b
  behind_by section opened q b h e g =
      h (inside s q (λ (z : byte_at s q ≡ 0). omega arith)) ∙ ap (behind_item section opened) e

  name_goes : (section : Section) (opened p q : ℕ) → NameAt s p q → state_at s p ≡ Name section 0 opened
      → (n : ℕ) → p + suc n ≤ q → state_at s (p + suc n) ≡ Name section (suc n) opened
  name_goes section opened p q here e zero h =
      let b = byte_at s p in
      state_from p (Name section 0 opened) (named_inside s p (name_begins here)) e
      ∙ cond-true (letter b) (Name section 1 opened) _ here.begins
  name_goes section opened p q here e (suc n) h =
      let i = p + suc n in
      let b = byte_at s i in
      let short = here.short in
      let named : in_name b ≡ true = here.run.goes_on i (omega arith) (omega arith) in
      let on : state_at s (i + 1) ≡ Name section (suc (suc n)) opened =
      state_from i (Name section (suc n) opened) (named_inside s i named) (name_goes section opened p q here e n (omega arith))
      ∙ cond-true (in_name b) _ (behind_item section opened b) named
      ∙ cond-true (ltb (suc n) most_name_bytes) (Name section (suc (suc n)) opened) Wrong (lt-ltb (suc n) most_name_bytes (omega arith)) in
      let place : i + 1 ≡ p + suc (suc n) = omega arith in
      subst (λ (q : ℕ). state_at s q ≡ Name section (suc (suc n)) opened) place on

  name_walk : (section : Section) (opened p q : ℕ) → NameAt s p q → state_at s p ≡ Name section 0 opened → Passed section opened q
  name_walk section opened p q here e h =
      let some = name_some here in
      let n = q - suc p in
      let place : p + suc n ≡ q = omega arith in
      let at : state_at s q ≡ Name section (suc n) opened =
      subst (λ (i : ℕ). state_at s i ≡ Name section (suc n) opened) place (name_goes section opened p q here e n (omega arith)) in
      state_from q (Name section (suc n) opened) h at ∙ cond-false (in_name (byte_at s q)) _ _ here.run.ends

  names_walk : (section : Section) (sign : ℕ) → joining section sign ≡ true → 0 < sign → {p q : ℕ} {spots : List Spot} → Names s sign p q spots
      → state_at s p ≡ Name section 0 0 → Passed section 0 q
  names_walk section sign j g (last_name {p} {q} here no_more) e = name_walk section 0 p q here e
  names_walk section sign j g (more_names {p} {r} here signed more) e =
      names_walk section sign j g more
      (behind_by section 0 r sign (name_walk section 0 p r here e) signed g ∙ cond-true (joining section sign) _ _ j)

  -- ---- phrases

  -- the state before a phrase of a kind
  abbrev Enters : Kind → ℕ → ℕ → Type 0
  Enters item opened p = state_at s p ≡ Name Need 0 opened
  Enters (list j) opened p = state_at s p ≡ Name Need 0 opened
  Enters (rest j v) opened p = Passed Need opened p

  enters_operand : (j : Join) (opened p : ℕ) → state_at s p ≡ Name Need 0 opened → Enters (operand j) opened p
  enters_operand ors opened p e = e
  enters_operand ands opened p e = e

  sign_walk : (j : Join) (opened p : ℕ) → Passed Need opened p → byte_at s p ≡ sign_of j → state_at s (p + 1) ≡ Name Need 0 opened
  sign_walk ors opened p h e = behind_by Need opened p bar h e (lit< tt)
  sign_walk ands opened p h e = behind_by Need opened p ampersand h e (lit< tt)

  stands_walk : {kind : Kind} {deep p q : ℕ} {v : Formula} (opened : ℕ) → opened + deep ≤ most_brackets → Stands s kind deep p q v
      → Enters kind opened p → Passed Need opened q
  stands_walk opened h (first {j} {deep} {p} {r} {q} one more) e =
      stands_walk opened h more (stands_walk opened h one (enters_operand j opened p e))
  stands_walk opened h (last no_more) e = e
  stands_walk opened h (next {j} {deep} {p} {r} {q} signed one more) e =
      stands_walk opened h more (stands_walk opened h one (enters_operand j opened (p + 1) (sign_walk j opened p e signed)))
  stands_walk opened h (name {deep} {p} {q} here) e = name_walk Need opened p q here e
  stands_walk opened h (bracketed {deep} {p} {q} open_said inner close-said) e =
      let in_bracket : state_at s (p + 1) ≡ Name Need 0 (suc opened) =
      state_by s p bracket_open (Name Need 0 opened) e open_said (lit< tt)
      ∙ cond-true (ltb opened most_brackets) (Name Need 0 (suc opened)) Wrong (lt-ltb opened most_brackets (omega arith)) in
      let behind = stands_walk (suc opened) (omega arith) inner in_bracket in
      λ g. state_from (q + 1) (Closed opened) g (behind_by Need (suc opened) q bracket_close behind close-said (lit< tt))

  -- ---- lines

  -- a line begins at place p behind one of a section before place n of the order
  record LineAt (n p : ℕ) : Type 0 where
    before : Section
    early : order before < n
    at : state_at s p ≡ new_line before

  -- lines of a section that may follow itself
  module _ {A : Type 0} (section : Section) (Value : ℕ → ℕ → A → Type 0) (valued : value_of section ≡ Name section 0 0)
      (again : follows (Some section) section ≡ true)
      (value-walk : (p q : ℕ) (a : A) → Value p q a → state_at s p ≡ Name section 0 0 → Passed section 0 q) where
    may_come : (before : Section) → order before < suc (order section) → follows (Some before) section ≡ true
    may_come before h = go (eqb (order before) (order section)) refl
      where
        go : (test : Bool) → eqb (order before) (order section) ≡ test → follows (Some before) section ≡ true
        go true e =
            let same : section ≡ before = sym (same_order (eqb-true (order before) (order section) e)) in
            subst (λ (x : Section). follows (Some x) section ≡ true) same again
        go false e = let other = eqb-false (order before) (order section) e in later_may before section (omega arith)

    lines_walk : {p q : ℕ} {lines : List (Line A)} → Lines s (key_of section) Value p q lines → LineAt (suc (order section)) p
        → LineAt (suc (order section)) q
    lines_walk (no_line none) here = here
    lines_walk (one_line {p} {r} {q} {a} said value ended more) here =
        let before = here.before in
        let value_at = key_walk (Some before) section p (may_come before here.early) said (likely before) here.at ∙ valued in
        let passed = value-walk (p + width_of section) r a value value_at in
        lines_walk more
        (record { before = section; early = omega arith; at = behind_by section 0 r line_end passed ended (lit< tt) ∙ line_over section })

  -- ---- the number

  digit_walk : (p : ℕ) (digits : Digits) → digit (byte_at s p) ≡ true → state_at s p ≡ Number digits
      → state_at s (p + 1) ≡ on_digit digits (byte_at s p)
  digit_walk p digits d e =
      let b = byte_at s p in
      state_from p (Number digits) (inside s p (digit_not b 0 refl d)) e
      ∙ cond-false (eqb b line_end) (number_ending digits) _ (ne_eqb b line_end (digit_not b line_end refl d))
      ∙ cond-true (digit b) _ Wrong d

  number_walk : {p q v : ℕ} → NumberAt s p q v → state_at s p ≡ Number Nothing → byte_at s q ≡ line_end → state_at s (q + 1) ≡ Done
  number_walk (one_digit {p} d) e ended = go (eqb (byte_at s p) 48) (digit_walk p Nothing d e)
    where
      go : (zeroth : Bool) → state_at s (p + 1) ≡ cond zeroth (Number Zero) (Number Other) → state_at s (p + 1 + 1) ≡ Done
      go true f = state_by s (p + 1) line_end (Number Zero) f ended (lit< tt)
      go false f = state_by s (p + 1) line_end (Number Other) f ended (lit< tt)
  number_walk (two_digits {p} d n d') e ended =
      let one : state_at s (p + 1) ≡ Number Other =
      digit_walk p Nothing d e ∙ cond-false (eqb (byte_at s p) 48) (Number Zero) (Number Other) (ne_eqb (byte_at s p) 48 n) in
      let two : state_at s (p + 1 + 1) ≡ Number Two = digit_walk (p + 1) Other d' one in
      let place : p + 1 + 1 ≡ p + 2 = omega arith in
      state_by s (p + 2) line_end (Number Two) (subst (λ (q : ℕ). state_at s q ≡ Number Two) place two) ended (lit< tt)

  -- ---- the text

  -- a text of the form leads to the end
  pub form_done : HasForm s → run begin s ≡ Done
  unfolding run
  form_done (sheet, t) =
      let columns : state_at s (width_of Columns) ≡ Name Columns 0 0 = key_walk None Columns 0 refl t.columns_said Columns refl in
      let columns_end = names_walk Columns comma refl (lit< tt) t.columns columns in
      let first_line : LineAt 2 (t.columns_to + 1) = record {
        before = Columns;
        early = lit< tt;
        at = behind_by Columns 0 t.columns_to line_end columns_end t.columns_end (lit< tt);
      } in
      let forbids = lines_walk Forbid (Names s plus) refl refl (λ p q spots names e. names_walk Forbid plus refl (lit< tt) names e)
      t.forbids first_line in
      let needs = lines_walk Need (Stands s (list ors) most_brackets) refl refl (λ p q v stands e. stands_walk 0 (lit≤ tt) stands e)
      t.needs (record { before = forbids.before; early = omega (arith, forbids.early); at = forbids.at }) in
      let may = later_may needs.before End needs.early in
      let number = key_walk (Some needs.before) End t.end_from may t.end_said (likely needs.before) needs.at in
      let done = number_walk t.number number t.number_end in
      let whole = t.whole in
      sym (state_all s (t.number_to + 1) (omega arith)) ∙ done
