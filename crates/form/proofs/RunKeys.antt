-- Runs of the machine over the bytes of a key, whichever of the keys that begin alike its states name. Assumes nothing.
use mathlib.Core.Path.{◌≡◌, refl, sym, ap, ◌∙◌}
use mathlib.Core.Bool.{true}
use mathlib.Core.List.Memᴰ
use Rattle.rules.specs.Options.{Option}
use Prim.Native.Nat.{ℕ, zero, suc, ◌+◌}
use native.Mathlib.Numerals.{add-one}
use native.Mathlib.Omega.{arith}
use lib.ListN.{drop, drop_of_length-le}
use lib.Seq.{drop-cons}
use borrow.Author.Count.{below_more}
use Rattle.rules.specs.Signs.{byte_at}
use Rattle.naming.specs.Sections.{key_of, width_of}
use Rattle.naming.specs.declared.sections.Section.{Section}
use Rattle.form.specs.declared.machine.State.{State}
use Rattle.form.specs.declared.machine.State.TheVariants.{Key}
use Rattle.form.specs.Order.{follows}
use Rattle.form.specs.Machine.{value_of, onward, step, run}
use Rattle.naming.proofs.AllSections.{listed}
use Rattle.naming.proofs.KeysApart.{SameTo, apart, inside_both}
use Rattle.form.proofs.KeyLaws.{Goes, first_found, onward_key, onward_value}

-- a section that may stand behind this
module _ (behind : Option Section) (section : Section) (may : follows behind section ≡ true) where
  -- where k bytes of its key stand, the next one is that of a key that goes on alike
  step_key : (other : Section) (k : ℕ) → SameTo other section k
      → (one : Section) × SameTo one section (suc k) × (step (Key other behind k) (byte_at (key_of section) k) ≡ onward behind one (suc k))
  step_key other k same =
      let b = byte_at (key_of section) k in
      let found : Goes behind other k b (step (Key other behind k) b) =
      first_found behind other k b section (record { byte = refl; may = may; same = same }) (Memᴰ.tail (listed section)) in
      let one = found.0 in
      let so =
      below_more (λ (i : ℕ). byte_at (key_of one) i ≡ byte_at (key_of section) i) k (λ i l. sym (found.1.same i l) ∙ same i l) found.1.byte in
      (one, rw (← add-one k) so, found.2)

  -- the rest of its key leads to its value
  pub run_key : (left : ℕ) (other : Section) (k : ℕ) → suc k + left ≡ width_of section → SameTo other section k
      → run (Key other behind k) (drop k (key_of section)) ≡ value_of section
  unfolding run
  run_key zero other k h same =
      let key = key_of section in
      let next = step_key other k same in
      let is : next.0 ≡ section = sym (apart section next.0 (λ i l. sym (next.1 i (omega arith)))) in
      let last : step (Key other behind k) (byte_at key k) ≡ value_of section =
      next.2 ∙ ap (λ (x : Section). onward behind x (suc k)) is ∙ onward_value behind section (suc k) (omega arith) in
      ap (run (Key other behind k)) (drop-cons key k 0 (omega arith))
      ∙ ap (λ (state : State). run state (drop (suc k) key)) last
      ∙ ap (run (value_of section)) (drop_of_length-le key {i = suc k} (omega arith))
  run_key (suc left) other k h same =
      let key = key_of section in
      let next = step_key other k same in
      let fits = inside_both section next.0 (suc k) (λ i l. sym (next.1 i l)) (omega arith) in
      ap (run (Key other behind k)) (drop-cons key k 0 (omega arith))
      ∙ ap (λ (state : State). run state (drop (suc k) key)) (next.2 ∙ onward_key behind next.0 (suc k) fits)
      ∙ run_key left next.0 (suc k) (omega arith) next.1
