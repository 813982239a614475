-- From the machine to the form: a text that leads to the end is of the form. Assumes nothing.
use mathlib.Core.Path.{◌≡◌, refl, ap, subst, ◌∙◌}
use mathlib.Core.List.{List}
use Rattle.rules.specs.Options.{None, Some}
use Prim.Native.Nat.{ℕ, ◌+◌, ◌<◌}
use native.Mathlib.Omega.{arith}
use lib.ListN.{length}
use Rattle.rules.specs.Signs.{byte_at, Says, comma, plus, line_end}
use Rattle.rules.specs.Names.{Names}
use Rattle.rules.specs.Phrases.{list, ors, Stands, most_brackets}
use Rattle.rules.specs.Texts.{HasForm}
use Rattle.rules.proofs.Signs.{inside}
use Rattle.naming.specs.Sections.{key_of, width_of}
use Rattle.naming.specs.declared.sections.Section.{Section}
use Rattle.naming.specs.declared.sections.Section.TheVariants.{Columns, Forbid, Need, End}
use Rattle.form.specs.declared.machine.State.{State}
use Rattle.form.specs.declared.machine.State.TheVariants.{Name, Done}
use Rattle.form.specs.Order.{likely}
use Rattle.form.specs.Machine.{value_of, new_line, step, run, state_at}
use Rattle.naming.proofs.AllSections.{order}
use Rattle.form.proofs.Table.{columns_first, columns_once, end_last}
use Rattle.form.proofs.Runs.{state_next}
use Rattle.form.proofs.Living.{LeadsToEnd, alive}
use Rattle.form.proofs.ReadKeys.{read_key}
use Rattle.form.proofs.ReadNames.{ValueFrom, read_names}
use Rattle.form.proofs.ReadPhrases.{read_need}
use Rattle.form.proofs.ReadLines.{LineFrom, LinesFrom, NumberFrom, read_lines, read_number}

module _ {s : List ℕ} (led : LeadsToEnd s) where
  -- the columns' line begins the text
  read_columns : Says s 0 (key_of Columns) × ValueFrom s Columns (Names s comma) (width_of Columns)
  unfolding run
  read_columns =
      let key = read_key led None 0 Columns refl in
      let same = columns_first key.section key.may in
      let at : state_at s (width_of Columns) ≡ Name Columns 0 0 = subst (λ (x : Section). state_at s (0 + width_of x) ≡ value_of x) same key.value in (
        subst (λ (x : Section). Says s 0 (key_of x)) same key.said,
        read_names led Columns comma refl (λ b. refl) (length s + 1) (width_of Columns) (omega arith) at,
      )

  -- another line follows it
  behind_columns : (p : ℕ) → state_at s p ≡ new_line Columns → LineFrom s (order Forbid) p
  behind_columns p e =
      let key = read_key led (Some Columns) p (likely Columns) e in
      record { section = key.section; late = columns_once key.section key.may; said = key.said; value = key.value }

  read_forbid : (p : ℕ) → state_at s p ≡ Name Forbid 0 0 → ValueFrom s Forbid (Names s plus) p
  read_forbid p e = read_names led Forbid plus refl (λ b. refl) (length s + 1) p (omega arith) e

  read_forbids : (p : ℕ) → LineFrom s (order Forbid) p → LinesFrom s Forbid (Names s plus) p
  read_forbids p here = read_lines led Forbid (Names s plus) refl read_forbid (length s + 1) p (omega arith) here

  read_needs : (p : ℕ) → LineFrom s (order Need) p → LinesFrom s Need (Stands s (list ors) most_brackets) p
  read_needs p here = read_lines led Need (Stands s (list ors) most_brackets) refl (read_need led) (length s + 1) p (omega arith) here

  read_end : (p : ℕ) → LineFrom s (order End) p → Says s p (key_of End) × NumberFrom s (p + width_of End)
  read_end p here =
      let same = end_last here.section here.late in (
        subst (λ (x : Section). Says s p (key_of x)) same here.said,
        read_number led (p + width_of End) (subst (λ (x : Section). state_at s (p + width_of x) ≡ value_of x) same here.value),
      )

  -- nothing follows the end
  nothing_follows : (p : ℕ) → byte_at s p ≡ line_end → state_at s (p + 1) ≡ Done → length s ≡ p + 1
  nothing_follows p signed e =
      let in_text : p < length s = inside s p (λ (z : byte_at s p ≡ 0). omega arith) in
      let over : (p + 1 < length s) → ⊥ =
      λ h. alive led (p + 1 + 1) (state_next s (p + 1) h ∙ ap (λ (x : State). step x (byte_at s (p + 1))) e) in
      omega arith

  -- a text that leads to the end is of the form
  pub done_form : HasForm s
  done_form =
      let columns = read_columns.1 in
      let forbids = read_forbids (columns.0 + 1) (behind_columns (columns.0 + 1) columns.5) in
      let needs = read_needs forbids.0 forbids.3 in
      let ended = read_end needs.0 needs.3 in
      let number = ended.1 in (
        record {
          columns = columns.1;
          forbids = forbids.1;
          needs = needs.1;
          ended = record { place = needs.0 + width_of End; value = number.1 };
        },
        record {
          columns_to = columns.0;
          needs_from = forbids.0;
          end_from = needs.0;
          number_to = number.0;
          columns_said = read_columns.0;
          columns = columns.3;
          columns_end = columns.4;
          forbids = forbids.2;
          needs = needs.2;
          end_said = ended.0;
          ended = refl;
          number = number.2;
          number_end = number.3;
          whole = nothing_follows number.0 number.3 number.4;
        },
      )
