-- The value of a need line, read off the states of a text that leads to the end. Assumes nothing.
use Prim.{Unit}
use mathlib.Core.Path.{◌≡◌, refl, ap, subst, ◌∙◌}
use mathlib.Core.Logic.{⊎_elim}
use mathlib.Core.Bool.{true}
use mathlib.Core.List.{List}
use Prim.Native.Nat.{ℕ, zero, suc, ◌+◌, ◌-◌, ◌<◌, ◌≤◌}
use native.Mathlib.Omega.{arith}
use lib.Dec.{ltb, eqb}
use lib.ListN.{length}
use borrow.Author.Tests.{ltb-true, eqb-true, eqb-false}
use Rattle.std.proofs.lemmas.Bool.{cond-true, cond-false, cases_Bool}
use Rattle.rules.specs.Signs.{byte_at, letter, line_end, ampersand, bar, bracket_open, bracket_close}
use Rattle.rules.specs.Names.{spot}
use Rattle.rules.specs.Phrases.{
  Kind,
  item,
  list,
  rest,
  Join,
  ors,
  ands,
  operand,
  sign_of,
  join_of,
  Formula,
  named,
  Stands,
  first,
  last,
  next,
  name,
  bracketed,
  most_brackets,
}
use Rattle.naming.specs.declared.sections.Section.TheVariants.{Need}
use Rattle.form.specs.declared.machine.State.TheVariants.{Name, Closed, Wrong}
use Rattle.form.specs.Machine.{joining, state_at}
use Rattle.form.proofs.Signs.{joins_need, joins_no_need}
use Rattle.form.proofs.Living.{LeadsToEnd, not_name, not_closed, alive, within, goes, must, forks}
use Rattle.form.proofs.ReadNames.{ItemEnds, ValueFrom, item_ends, read_name, line_ends}

-- a phrase of this kind from place p on; Ends says what is known of the byte behind it
abbrev PhraseFrom : List ℕ → (ℕ → Type 0) → Kind → ℕ → ℕ → Type 0
PhraseFrom s Ends kind opened p =
    (q : ℕ) × (v : Formula) × (p < q) × Stands s kind (most_brackets - opened) p q v × Ends (byte_at s q) × (ItemEnds s Need opened q)

-- such a phrase can be read wherever an item must come and fewer than n bytes are left
abbrev CanRead : List ℕ → (ℕ → Type 0) → Kind → ℕ → Type 0
CanRead s Ends kind n = (p opened : ℕ) → length s < p + n → state_at s p ≡ Name Need 0 opened → PhraseFrom s Ends kind opened p

-- what is known of the byte behind an item, an and-list, an or-list
abbrev EndsItem : ℕ → Type 0
EndsItem b = Unit {0}

abbrev EndsAnds : ℕ → Type 0
EndsAnds b = EndsItem b × (b ≡ ampersand → ⊥)

abbrev EndsOrs : ℕ → Type 0
EndsOrs b = EndsAnds b × (b ≡ bar → ⊥)

module _ {s : List ℕ} (led : LeadsToEnd s) where
  -- ---- lists

  -- a sign between the operands of a list
  sign_state : (j : Join) (opened p : ℕ) → ItemEnds s Need opened p → byte_at s p ≡ sign_of j → state_at s (p + 1) ≡ Name Need 0 opened
  sign_state j opened p past e = past.1 ∙ cond-true (joining Need (byte_at s p)) _ _ (ap (joining Need) e ∙ joins_need j)

  module _ (j : Join) (Ends : ℕ → Type 0) (n : ℕ) (read : CanRead s Ends (operand j) n) where
    -- what is known of the byte behind the list
    abbrev EndsList : ℕ → Type 0
    EndsList b = Ends b × (b ≡ sign_of j → ⊥)

    -- what follows the operands that are read, which say u
    abbrev RestFrom : ℕ → Formula → ℕ → Type 0
    RestFrom opened u r =
        (q : ℕ) × (w : Formula) × (r ≤ q) × Stands s (rest j u) (most_brackets - opened) r q w × EndsList (byte_at s q)
        × (ItemEnds s Need opened q)

    rest_next : (opened r : ℕ) (u : Formula) → byte_at s r ≡ sign_of j → (one : PhraseFrom s Ends (operand j) opened (r + 1))
        → RestFrom opened (join_of j u one.1) one.0 → RestFrom opened u r
    rest_next opened r u signed one more =
        let forward = one.2 in
        let further = more.2 in
        (more.0, more.1, omega arith, next signed one.3 more.3, more.4, more.5)

    rest_last : (opened r : ℕ) (u : Formula) → (byte_at s r ≡ sign_of j → ⊥) → Ends (byte_at s r) → ItemEnds s Need opened r → RestFrom opened u r
    rest_last opened r u unsigned ends past = (r, u, omega arith, last unsigned, (ends, unsigned), past)

    read_rest : (left r opened : ℕ) (u : Formula) → length s < r + n → length s < r + left → Ends (byte_at s r) → ItemEnds s Need opened r
        → RestFrom opened u r
    read_rest zero r opened u h g ends past = let in_text = past.0 in absurd (omega arith)
    read_rest (suc left) r opened u h g ends past =
        let b = byte_at s r in
        ⊎_elim
        (λ on.
        let signed = eqb-true b (sign_of j) on in
        let one = read (r + 1) opened (omega arith) (sign_state j opened r past signed) in
        let forward = one.2 in
        rest_next opened r u signed one (read_rest left one.0 opened (join_of j u one.1) (omega arith) (omega arith) one.4 one.5))
        (λ over. rest_last opened r u (eqb-false b (sign_of j) over) ends past)
        (cases_Bool (eqb b (sign_of j)))

    read_list : CanRead s EndsList (list j) n
    read_list p opened h e =
        let one = read p opened h e in
        let forward = one.2 in
        let more = read_rest n one.0 opened one.1 (omega arith) (omega arith) one.4 one.5 in
        let further = more.2 in
        (more.0, more.1, omega arith, first one.3 more.3, more.4, more.5)

  -- ---- items

  -- a bracket closes behind an or-list in brackets
  bracket_closes : (opened q : ℕ) → EndsOrs (byte_at s q) → ItemEnds s Need (suc opened) q
      → (byte_at s q ≡ bracket_close) × (state_at s (q + 1) ≡ Closed opened)
  bracket_closes opened q ends past =
      let b = byte_at s q in
      ⊎_elim
      (λ here. (eqb-true b bracket_close here.0, here.1))
      (λ over. absurd (alive led (q + 1) (must led (q + 1) (eqb b line_end) Wrong over.1).1))
      (forks led (q + 1) (eqb b bracket_close) _ _ (past.1 ∙ cond-false (joining Need b) _ _ (joins_no_need b ends.0.1 ends.1)))

  read_bracket : (n p opened : ℕ) → CanRead s EndsOrs (list ors) n → length s < p + suc n → byte_at s p ≡ bracket_open → opened < most_brackets
      → state_at s (p + 1) ≡ Name Need 0 (suc opened) → PhraseFrom s EndsItem item opened p
  read_bracket n p opened read h signed room e =
      let inner = read (p + 1) (suc opened) (omega arith) e in
      let forward = inner.2 in
      let closed = bracket_closes opened inner.0 inner.4 inner.5 in
      let deep : suc (most_brackets - suc opened) ≡ most_brackets - opened = omega arith in
      let place = inner.0 + 1 in (
        place,
        inner.1,
        omega arith,
        subst (λ (d : ℕ). Stands s item d p place inner.1) deep (bracketed signed inner.3 closed.0),
        tt,
        item_ends led Need opened place (Closed opened) not_closed closed.1 refl,
      )

  read_named : (p opened : ℕ) → letter (byte_at s p) ≡ true → state_at s (p + 1) ≡ Name Need 1 opened → PhraseFrom s EndsItem item opened p
  read_named p opened l e =
      let here = read_name led Need opened p l e in
      (here.0, named (spot s p here.0), here.1, name here.2, tt, here.3)

  read_item : (n : ℕ) → CanRead s EndsOrs (list ors) n → CanRead s EndsItem item (suc n)
  read_item n read p opened h e =
      let b = byte_at s p in
      ⊎_elim
      (λ on. read_named p opened on.0 on.1)
      (λ over.
      let bracket = must led (p + 1) (eqb b bracket_open) _ over.1 in
      let room = must led (p + 1) (ltb opened most_brackets) _ bracket.1 in
      read_bracket n p opened read h (eqb-true b bracket_open bracket.0) (ltb-true opened most_brackets room.0) room.1)
      (forks led (p + 1) (letter b) _ _ (goes led p (Name Need 0 opened) not_name e))

  read_ors : (n : ℕ) → CanRead s EndsItem item n → CanRead s EndsOrs (list ors) n
  read_ors n read = read_list ors EndsAnds n (read_list ands EndsItem n read)

  read_items : (n : ℕ) → CanRead s EndsItem item n
  read_items zero p opened h e = let in_text = within led p (Name Need 0 opened) not_name e in absurd (omega arith)
  read_items (suc n) p opened h e = read_item n (read_ors n (read_items n)) p opened h e

  -- ---- the line

  -- the value of a need line can be read
  pub read_need : (p : ℕ) → state_at s p ≡ Name Need 0 0 → ValueFrom s Need (Stands s (list ors) most_brackets) p
  read_need p e =
      let n = length s + 1 in
      let need = read_ors n (read_items n) p 0 (omega arith) e in
      let ended = line_ends led Need need.0 need.5 (joins_no_need (byte_at s need.0) need.4.0.1 need.4.1) in
      (need.0, need.1, need.2, need.3, ended.0, ended.1)
