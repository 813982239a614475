-- The key of a line, read off the states of a text that leads to the end. Assumes nothing.
use mathlib.Core.Path.{◌≡◌, sym, subst, ◌∙◌}
use mathlib.Core.Logic.{⊎_elim}
use mathlib.Core.Bool.{true}
use mathlib.Core.List.{List, ◌∷◌}
use Rattle.rules.specs.Options.{Option}
use Prim.Native.Nat.{ℕ, zero, suc, ◌+◌, ◌<◌}
use native.Mathlib.Numerals.{add-one}
use native.Mathlib.Omega.{arith}
use lib.Dec.{ltb}
use lib.ListN.{length}
use borrow.Author.Count.{below_more}
use borrow.Author.Tests.{ltb-false}
use Rattle.rules.specs.Signs.{byte_at, Says}
use Rattle.naming.specs.Sections.{key_of, width_of}
use Rattle.naming.specs.declared.sections.Section.{Section}
use Rattle.form.specs.declared.machine.State.TheVariants.{Key}
use Rattle.naming.specs.Sections.{sections}
use Rattle.form.specs.Order.{follows}
use Rattle.form.specs.Machine.{value_of, onward, Possible, state_at}
use Rattle.naming.proofs.KeysApart.{Begun, begun_said, inside_both}
use Rattle.form.proofs.KeyLaws.{Goes, first_on_lem}
use Rattle.form.proofs.Possible.{possible_at}
use Rattle.form.proofs.Living.{LeadsToEnd, not_key, alive, within, goes, forks}

-- a key that may stand behind this stands from place p on, and leads to its value
pub record KeyFrom (s : List ℕ) (behind : Option Section) (p : ℕ) : Type 0 where
  pub section : Section
  pub may : follows behind section ≡ true
  pub said : Says s p (key_of section)
  pub value : state_at s (p + width_of section) ≡ value_of section

module _ {s : List ℕ} (led : LeadsToEnd s) (behind : Option Section) (p : ℕ) where
  -- the next byte is one of a key
  key_goes : (section : Section) (k : ℕ) → state_at s (p + k) ≡ Key section behind k → Goes behind section k (byte_at s (p + k)) (state_at s (p + k + 1))
  key_goes section k e =
      let b = byte_at s (p + k) in
      let next = goes led (p + k) (Key section behind k) not_key e in
      ⊎_elim (λ on. (on.0, on.1, next ∙ on.2)) (λ wrong. absurd (alive led (p + k + 1) (next ∙ wrong)))
      (first_on_lem behind section k b (section ∷ sections))

  -- so one byte more of that key stands
  begun_more : (section : Section) (k : ℕ) → Begun s p (key_of section) k → (on : Goes behind section k (byte_at s (p + k)) (state_at s (p + k + 1)))
      → Begun s p (key_of on.0) (suc k)
  begun_more section k begun on =
      rw (← add-one k)
      (below_more (λ (i : ℕ). byte_at s (p + i) ≡ byte_at (key_of on.0) i) k (λ i h. begun i h ∙ on.1.same i h) (sym on.1.byte))

  -- a key can be read wherever some bytes of one stand and fewer than `left` bytes are left
  key_from : (left k : ℕ) (section : Section) → length s < p + k + left → Begun s p (key_of section) k → state_at s (p + k) ≡ Key section behind k
      → KeyFrom s behind p
  key_from zero k section h begun e = let in_text = within led (p + k) (Key section behind k) not_key e in absurd (omega arith)
  key_from (suc left) k section h begun e =
      let on = key_goes section k e in
      let other = on.0 in
      let place : p + k + 1 ≡ p + suc k = omega arith in
      let at : state_at s (p + suc k) ≡ onward behind other (suc k) = subst (λ (q : ℕ). state_at s q ≡ onward behind other (suc k)) place on.2 in
      let more = begun_more section k begun on in
      ⊎_elim
      (λ inside. key_from left (suc k) other (omega arith) more inside.1)
      (λ over.
      let fits = inside_both section other k on.1.same (subst Possible e (possible_at s (p + k))).1 in
      let whole : suc k ≡ width_of other = omega (arith, ltb-false (suc k) (width_of other) over.0) in
      record {
        section = other;
        may = on.1.may;
        said = begun_said s (key_of other) p (subst (Begun s p (key_of other)) whole more);
        value = subst (λ (k : ℕ). state_at s (p + k) ≡ value_of other) whole over.1;
      })
      (forks led (p + suc k) (ltb (suc k) (width_of other)) _ _ at)

  -- where no byte of a key stands yet one can be read
  pub read_key : (section : Section) → state_at s p ≡ Key section behind 0 → KeyFrom s behind p
  read_key section e =
      let place : p ≡ p + 0 = omega arith in
      key_from (length s + 1) 0 section (omega arith) (λ i h. absurd (omega arith)) (subst (λ (q : ℕ). state_at s q ≡ Key section behind 0) place e)
