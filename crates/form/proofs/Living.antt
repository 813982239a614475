-- The states of a text that leads to the end: none is wrong, and a byte follows each but the last. Assumes nothing.
use mathlib.Core.Path.{◌≡◌, refl, sym, ap, ◌∙◌}
use mathlib.Core.Logic.{◌⊎◌, inl, inr}
use mathlib.Core.Bool.{Bool, true, false, cond}
use mathlib.Core.List.{List}
use Rattle.rules.specs.Options.{Option}
use Prim.Native.Nat.{ℕ, ◌+◌, ◌<◌, ◌≤◌}
use native.Mathlib.Nat.{lt_of_not-le}
use native.Mathlib.Omega.{arith}
use lib.ListN.{length}
use Rattle.rules.specs.Signs.{byte_at}
use Rattle.naming.specs.declared.sections.Section.{Section}
use Rattle.form.specs.declared.machine.Digits.{Digits}
use Rattle.form.specs.declared.machine.State.{State}
use Rattle.form.specs.declared.machine.State.TheVariants.{Key, Name, Closed, Number, Done, Wrong}
use Rattle.form.specs.Machine.{step, begin, run, state_at}
use Rattle.form.proofs.Runs.{wrong_done, state_next, state_all, stays_wrong}

-- the text leads to the end
pub record LeadsToEnd (s : List ℕ) : Type 0 where
  pub done : run begin s ≡ Done

-- the last state is none of the others
pub not_key : {section : Section} {behind : Option Section} {k : ℕ} → Key section behind k ≡ Done → ⊥
not_key e = cc

pub not_name : {section : Section} {n opened : ℕ} → Name section n opened ≡ Done → ⊥
not_name e = cc

pub not_closed : {opened : ℕ} → Closed opened ≡ Done → ⊥
not_closed e = cc

pub not_number : {digits : Digits} → Number digits ≡ Done → ⊥
not_number e = cc

module _ {s : List ℕ} (led : LeadsToEnd s) where
  -- no state is the wrong one
  pub alive : (p : ℕ) → state_at s p ≡ Wrong → ⊥
  alive p e = wrong_done (sym (stays_wrong s p (p + length s) (omega arith) e) ∙ state_all s (p + length s) (omega arith) ∙ led.done)

  -- a state that is not the last one lies within the text
  pub within : (p : ℕ) (state : State) → (state ≡ Done → ⊥) → state_at s p ≡ state → p < length s
  within p state h e = lt_of_not-le (λ (g : length s ≤ p). h (sym e ∙ state_all s p g ∙ led.done))

  -- a byte follows every state but the last
  pub goes : (p : ℕ) (state : State) → (state ≡ Done → ⊥) → state_at s p ≡ state → state_at s (p + 1) ≡ step state (byte_at s p)
  goes p state h e = state_next s p (within p state h e) ∙ ap (λ (x : State). step x (byte_at s p)) e

  -- a test that would else go wrong holds
  pub must : (p : ℕ) (test : Bool) (x : State) → state_at s p ≡ cond test x Wrong → (test ≡ true) × (state_at s p ≡ x)
  must p true x e = (refl, e)
  must p false x e = absurd (alive p e)

  -- a test holds or fails, and the state is the one chosen
  pub forks : (p : ℕ) (test : Bool) (x y : State) → state_at s p ≡ cond test x y
      → ((test ≡ true) × (state_at s p ≡ x)) ⊎ ((test ≡ false) × (state_at s p ≡ y))
  forks p true x y e = inl (refl, e)
  forks p false x y e = inr (refl, e)
