-- Names and lists of names, read off the states of a text that leads to the end. Assumes nothing.
use mathlib.Core.Path.{◌≡◌, sym, subst, ◌∙◌}
use mathlib.Core.Logic.{◌⊎◌, inl, inr, ⊎_elim}
use mathlib.Core.Bool.{true, false, cond}
use mathlib.Core.List.{List, [], ◌∷◌}
use Prim.Native.Nat.{ℕ, zero, suc, ◌+◌, ◌<◌, ◌≤◌}
use native.Mathlib.Omega.{arith}
use lib.Dec.{ltb, eqb, lit≤}
use lib.ListN.{length}
use borrow.Author.Tests.{ltb-true, eqb-true, eqb-false}
use Rattle.rules.specs.Signs.{byte_at, letter, in_name, line_end, bracket_open, bracket_close}
use Rattle.rules.specs.Names.{Name as NameAt, Names, spot, last_name, more_names, most_name_bytes}
use Rattle.rules.proofs.Signs.{letter_named}
use Rattle.std.proofs.lemmas.Bool.{cond-false}
use Rattle.naming.proofs.Runs.{from_more}
use Rattle.naming.specs.declared.sections.Section.{Section}
use Rattle.form.specs.declared.machine.State.{State}
use Rattle.form.specs.declared.machine.State.TheVariants.{Name, Done, Wrong}
use Rattle.form.specs.Machine.{new_line, has_brackets, joining, behind_item, step, state_at}
use Rattle.form.proofs.Living.{LeadsToEnd, not_name, alive, within, goes, must, forks}

-- an item of a section stands before place q, so many brackets are open there, and a byte follows
abbrev pub ItemEnds : List ℕ → Section → ℕ → ℕ → Type 0
ItemEnds s section opened q = (q < length s) × (state_at s (q + 1) ≡ behind_item section opened (byte_at s q))

-- a name from place p on
abbrev pub NameFrom : List ℕ → Section → ℕ → ℕ → Type 0
NameFrom s section opened p = (q : ℕ) × (p < q) × NameAt s p q × (ItemEnds s section opened q)

-- a value of a section from place p on, and the end of its line
abbrev pub ValueFrom : {A : Type 0} → List ℕ → Section → (ℕ → ℕ → A → Type 0) → ℕ → Type 0
ValueFrom {A} s section Value p = (q : ℕ) × (a : A) × (p < q) × Value p q a × (byte_at s q ≡ line_end) × (state_at s (q + 1) ≡ new_line section)

-- bytes of a name from place p to before place i
abbrev NamedTo : List ℕ → ℕ → ℕ → Type 0
NamedTo s p i = (j : ℕ) → p ≤ j → j < i → in_name (byte_at s j) ≡ true

module _ {s : List ℕ} (led : LeadsToEnd s) where
  -- a state that takes the next byte as behind an item
  pub item_ends : (section : Section) (opened q : ℕ) (state : State) → (state ≡ Done → ⊥) → state_at s q ≡ state
      → step state (byte_at s q) ≡ behind_item section opened (byte_at s q) → ItemEnds s section opened q
  item_ends section opened q state h e f = (within led q state h e, goes led q state h e ∙ f)

  -- ---- one name

  -- another byte of the name comes, or the name has ended
  name_step : (section : Section) (opened n i : ℕ) → state_at s i ≡ Name section (suc n) opened
      → ((in_name (byte_at s i) ≡ true) × (suc n < most_name_bytes) × (state_at s (i + 1) ≡ Name section (suc (suc n)) opened))
      ⊎ ((in_name (byte_at s i) ≡ false) × (ItemEnds s section opened i))
  name_step section opened n i e =
      ⊎_elim
      (λ on. let room = must led (i + 1) (ltb (suc n) most_name_bytes) _ on.1 in inl (on.0, ltb-true (suc n) most_name_bytes room.0, room.1))
      (λ over. inr (over.0, (within led i (Name section (suc n) opened) not_name e, over.1)))
      (forks led (i + 1) (in_name (byte_at s i)) _ _ (goes led i (Name section (suc n) opened) not_name e))

  named_one : (p : ℕ) → letter (byte_at s p) ≡ true → NamedTo s p (p + 1)
  named_one p l = from_more (λ (j : ℕ). in_name (byte_at s j) ≡ true) (λ j h g. absurd (omega arith)) (letter_named (byte_at s p) l)

  name_ends : (section : Section) (opened p n : ℕ) → suc n ≤ most_name_bytes → letter (byte_at s p) ≡ true → NamedTo s p (p + suc n)
      → in_name (byte_at s (p + suc n)) ≡ false → ItemEnds s section opened (p + suc n) → NameFrom s section opened p
  name_ends section opened p n g l so ends past = (
    p + suc n,
    omega arith,
    record { begins = l; run = record { forward = omega arith; goes_on = so; ends = ends }; short = omega arith },
    past,
  )

  rest_of_name : (left : ℕ) (section : Section) (opened p n : ℕ) → most_name_bytes ≤ n + left → suc n ≤ most_name_bytes → letter (byte_at s p) ≡ true
      → NamedTo s p (p + suc n) → state_at s (p + suc n) ≡ Name section (suc n) opened → NameFrom s section opened p
  rest_of_name zero section opened p n h g l so e = absurd (omega arith)
  rest_of_name (suc left) section opened p n h g l so e =
      let i = p + suc n in
      let place : i + 1 ≡ p + suc (suc n) = omega arith in
      let to : state_at s (i + 1) ≡ Name section (suc (suc n)) opened → state_at s (p + suc (suc n)) ≡ Name section (suc (suc n)) opened =
      subst (λ (q : ℕ). state_at s q ≡ Name section (suc (suc n)) opened) place in
      ⊎_elim
      (λ on.
      let so' = subst (NamedTo s p) place (from_more (λ (j : ℕ). in_name (byte_at s j) ≡ true) so on.0) in
      rest_of_name left section opened p (suc n) (omega arith) on.1 l so' (to on.2))
      (λ over. name_ends section opened p n g l so over.0 over.1)
      (name_step section opened n i e)

  -- a name can be read behind its first letter
  pub read_name : (section : Section) (opened p : ℕ) → letter (byte_at s p) ≡ true → state_at s (p + 1) ≡ Name section 1 opened
      → NameFrom s section opened p
  read_name section opened p l e = rest_of_name most_name_bytes section opened p 0 (lit≤ tt) (lit≤ tt) l (named_one p l) e

  -- ---- lists of names

  -- a line ends behind an item that no sign follows, where no bracket is open
  pub line_ends : (section : Section) (q : ℕ) → ItemEnds s section 0 q → joining section (byte_at s q) ≡ false
      → (byte_at s q ≡ line_end) × (state_at s (q + 1) ≡ new_line section)
  line_ends section q past j =
      let b = byte_at s q in
      ⊎_elim
      (λ wrong. absurd (alive led (q + 1) wrong.1))
      (λ over. let here = must led (q + 1) (eqb b line_end) _ over.1 in (eqb-true b line_end here.0, here.1))
      (forks led (q + 1) (eqb b bracket_close) _ _ (past.1 ∙ cond-false (joining section b) _ _ j))

  -- names joined by the sign of a section without brackets
  module _ (section : Section) (sign : ℕ) (flat : has_brackets section ≡ false) (joins : (b : ℕ) → joining section b ≡ eqb b sign) where
    no_bracket : (p : ℕ) (x : State) → state_at s (p + 1) ≡ cond (eqb (byte_at s p) bracket_open) (cond (has_brackets section) x Wrong) Wrong → ⊥
    no_bracket p x e = alive led (p + 1) ((must led (p + 1) (eqb (byte_at s p) bracket_open) _ e).1 ∙ cond-false (has_brackets section) _ _ flat)

    first_name : (p : ℕ) → state_at s p ≡ Name section 0 0 → NameFrom s section 0 p
    first_name p e =
        ⊎_elim
        (λ on. read_name section 0 p on.0 on.1)
        (λ over. absurd (no_bracket p _ over.1))
        (forks led (p + 1) (letter (byte_at s p)) _ _ (goes led p (Name section 0 0) not_name e))

    names_more : (p : ℕ) (here : NameFrom s section 0 p) → joining section (byte_at s here.0) ≡ true
        → ValueFrom s section (Names s sign) (here.0 + 1) → ValueFrom s section (Names s sign) p
    names_more p here j more =
        let q = here.0 in
        let signed = eqb-true (byte_at s q) sign (sym (joins (byte_at s q)) ∙ j) in
        let forward = here.1 in
        let further = more.2 in
        (more.0, spot s p q ∷ more.1, omega arith, more_names here.2 signed more.3, more.4, more.5)

    names_last : (p : ℕ) (here : NameFrom s section 0 p) → joining section (byte_at s here.0) ≡ false → ValueFrom s section (Names s sign) p
    names_last p here j =
        let q = here.0 in
        let unsigned = eqb-false (byte_at s q) sign (sym (joins (byte_at s q)) ∙ j) in
        let ended = line_ends section q here.3 j in
        (q, spot s p q ∷ [], here.1, last_name here.2 unsigned, ended.0, ended.1)

    -- a list of names can be read wherever fewer than `left` bytes are left
    pub read_names : (left p : ℕ) → length s < p + left → state_at s p ≡ Name section 0 0 → ValueFrom s section (Names s sign) p
    read_names zero p h e = let in_text = within led p (Name section 0 0) not_name e in absurd (omega arith)
    read_names (suc left) p h e =
        let here = first_name p e in
        let q = here.0 in
        let forward = here.1 in
        ⊎_elim
        (λ on. names_more p here on.0 (read_names left (q + 1) (omega arith) on.1))
        (λ over. names_last p here over.0)
        (forks led (q + 1) (joining section (byte_at s q)) _ _ here.3.1)
