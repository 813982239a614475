-- What the machine tells of a text: that it is of the form, or where it stops. Assumes nothing.
use mathlib.Core.Path.{◌≡◌, refl, sym, ap, subst, ◌∙◌}
use mathlib.Core.List.{List, ◌++◌}
use Prim.Native.Nat.{ℕ, suc, ◌+◌, ◌<◌, ◌≤◌}
use native.Mathlib.Numerals.{add-one}
use native.Mathlib.Omega.{arith}
use lib.ListN.{length, take}
use Rattle.rules.specs.Signs.{byte_at}
use Rattle.rules.specs.Texts.{HasForm, CanGoOn, StopsAt}
use Rattle.form.specs.declared.machine.State.{State}
use Rattle.form.specs.declared.machine.State.TheVariants.{Done, Wrong}
use Rattle.form.specs.Machine.{step, Possible, begin, run, state_at}
use Rattle.form.proofs.Runs.{wrong_done, run_append, run_wrong, state_next, state_all, stays_wrong}
use Rattle.form.proofs.Possible.{possible_at}
use Rattle.form.proofs.Completions.{can_end}
use Rattle.form.proofs.Walks.{form_done}
use Rattle.form.proofs.ReadTexts.{done_form}

begin_right : begin ≡ Wrong → ⊥
begin_right e = cc

module _ (s : List ℕ) where
  -- where the state is not wrong, bytes can follow so that the text is of the form
  can_go_on : (p : ℕ) → (state_at s p ≡ Wrong → ⊥) → CanGoOn (take p s)
  can_go_on p h =
      let completion = can_end (state_at s p) (possible_at s p) h in
      (completion.0, done_form (record { done = run_append begin (take p s) completion.0 ∙ completion.1 }))

  -- where it is wrong, none can
  cannot_go_on : (p : ℕ) → state_at s p ≡ Wrong → CanGoOn (take p s) → ⊥
  cannot_go_on p e (more, formed) =
      let wrong : run begin (take p s ++ more) ≡ Wrong =
      run_append begin (take p s) more ∙ ap (λ (state : State). run state more) e ∙ run_wrong more in
      wrong_done (sym wrong ∙ form_done (take p s ++ more) formed)

  -- where it is wrong, the text is not of the form
  no_form : (p : ℕ) → state_at s p ≡ Wrong → HasForm s → ⊥
  no_form p e formed =
      wrong_done (sym (stays_wrong s p (p + length s) (omega arith) e) ∙ state_all s (p + length s) (omega arith) ∙ form_done s formed)

  -- the machine has taken i bytes, and none was wrong
  pub record Followed (state : State) (i : ℕ) : Type 0 where
    pub up_to : i ≤ length s
    pub at : state ≡ state_at s i
    pub right : state ≡ Wrong → ⊥

  -- no byte is taken yet
  pub followed_begin : Followed begin 0
  unfolding run
  followed_begin = record { up_to = omega arith; at = refl; right = begin_right }

  -- the state is possible
  pub followed_possible : {state : State} {i : ℕ} → Followed state i → Possible state
  followed_possible {i} f = subst Possible (sym f.at) (possible_at s i)

  followed_next : {state : State} {i : ℕ} (after : State) → Followed state i → i < length s → after ≡ step state (byte_at s i)
      → after ≡ state_at s (i + 1)
  followed_next {i} after f h e = e ∙ ap (λ (state : State). step state (byte_at s i)) f.at ∙ sym (state_next s i h)

  -- one byte more
  pub followed_on : {state : State} {i : ℕ} (after : State) → Followed state i → i < length s → after ≡ step state (byte_at s i)
      → (after ≡ Wrong → ⊥) → Followed after (i + 1)
  followed_on after f h e right = record { up_to = omega arith; at = followed_next after f h e; right = right }

  -- a byte that leads to the wrong state is the place
  pub followed_wrong : {state : State} {i : ℕ} (after : State) → Followed state i → i < length s → after ≡ step state (byte_at s i)
      → after ≡ Wrong → StopsAt s i
  followed_wrong {i} after f h e wrong =
      let at : state_at s (i + 1) ≡ Wrong = sym (followed_next after f h e) ∙ wrong in record {
        within = omega arith;
        before = λ j g. can_go_on j (λ w. f.right (f.at ∙ stays_wrong s j i g w));
        after = λ g. cannot_go_on (suc i) (ap (state_at s) (sym (add-one i)) ∙ at);
        other_form = no_form (i + 1) at;
      }

  -- a text that leads to the end is of the form
  pub followed_whole : {state : State} {i : ℕ} → Followed state i → length s ≤ i → state ≡ Done → HasForm s
  followed_whole {i} f h e = done_form (record { done = sym (state_all s i h) ∙ sym f.at ∙ e })

  -- a text that leads to another state ends too early
  pub followed_short : {state : State} {i : ℕ} → Followed state i → length s ≤ i → (state ≡ Done → ⊥) → StopsAt s (length s)
  followed_short {i} f h short = record {
    within = omega arith;
    before = λ j g. can_go_on j (λ w. f.right (f.at ∙ stays_wrong s j i (omega arith) w));
    after = λ g. absurd (omega arith);
    other_form = λ formed. short (f.at ∙ state_all s i h ∙ form_done s formed);
  }
