-- Every text is of the form or stops somewhere. Assumes nothing.
use mathlib.Core.Path.{◌≡◌, refl}
use mathlib.Core.Logic.{◌⊎◌, inl, inr}
use mathlib.Core.List.{List}
use Prim.Native.Nat.{ℕ, zero, suc, ◌+◌}
use native.Mathlib.Omega.{arith}
use lib.ListN.{length}
use Rattle.rules.specs.Signs.{byte_at}
use Rattle.rules.specs.Texts.{HasForm, StopsAt}
use Rattle.form.specs.declared.machine.State.{State}
use Rattle.form.specs.declared.machine.State.TheVariants.{Key, Name, Closed, Number, Done, Wrong}
use Rattle.form.specs.Machine.{step, begin}
use Rattle.form.proofs.Places.{Followed, followed_begin, followed_on, followed_wrong, followed_whole, followed_short}

-- whether a state is this one
wrong_or_not : (state : State) → (state ≡ Wrong) ⊎ (state ≡ Wrong → ⊥)
wrong_or_not Wrong = inl refl
wrong_or_not (Key section behind k) = inr (λ e. cc)
wrong_or_not (Name section k opened) = inr (λ e. cc)
wrong_or_not (Closed opened) = inr (λ e. cc)
wrong_or_not (Number digits) = inr (λ e. cc)
wrong_or_not Done = inr (λ e. cc)

done_or_not : (state : State) → (state ≡ Done) ⊎ (state ≡ Done → ⊥)
done_or_not Done = inl refl
done_or_not (Key section behind k) = inr (λ e. cc)
done_or_not (Name section k opened) = inr (λ e. cc)
done_or_not (Closed opened) = inr (λ e. cc)
done_or_not (Number digits) = inr (λ e. cc)
done_or_not Wrong = inr (λ e. cc)

module _ (s : List ℕ) where
  -- from a place on, with so many bytes left
  decided_from : (left i : ℕ) (state : State) → Followed s state i → i + left ≡ length s → HasForm s ⊎ ((p : ℕ) × StopsAt s p)
  decided_from zero i state f e = go (done_or_not state)
    where
      go : (state ≡ Done) ⊎ (state ≡ Done → ⊥) → HasForm s ⊎ ((p : ℕ) × StopsAt s p)
      go (inl done) = inl (followed_whole s f (omega arith) done)
      go (inr short) = inr (length s, followed_short s f (omega arith) short)
  decided_from (suc left) i state f e = go (wrong_or_not (step state (byte_at s i))) (decided_from left (i + 1) (step state (byte_at s i)))
    where
      go : (step state (byte_at s i) ≡ Wrong) ⊎ (step state (byte_at s i) ≡ Wrong → ⊥)
          → (Followed s (step state (byte_at s i)) (i + 1) → i + 1 + left ≡ length s → HasForm s ⊎ ((p : ℕ) × StopsAt s p))
          → HasForm s ⊎ ((p : ℕ) × StopsAt s p)
      go (inl wrong) later = inr (i, followed_wrong s _ f (omega arith) refl wrong)
      go (inr right) later = later (followed_on s _ f (omega arith) refl right) (omega arith)

  -- a text is of the form, or there is the place where it stops
  pub decided : HasForm s ⊎ ((p : ℕ) × StopsAt s p)
  decided = decided_from (length s) 0 begin (followed_begin s) (omega arith)
