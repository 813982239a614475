-- Laws of what a set gains: which needs it meets, as the bits of a number. Assumes nothing.
use mathlib.Core.Path.{◌≡◌, refl, sym, ◌∙◌}
use mathlib.Core.Bool.{Bool, true, false}
use Prim.Native.Nat.{ℕ, zero, suc, ◌<◌, zero-le}
use native.Mathlib.Omega.{arith}
use lib.ListN.{length, get_or}
use lib.Pow.{pow_pos}
use Rattle.rules.specs.Lists.{any_of, up_from}
use Rattle.rules.specs.Sets.{has}
use Rattle.rules.specs.Needs.{column, meets}
use Rattle.rules.specs.Jobs.{Job, allowed}
use Rattle.rules.specs.Conditions.{meets_chosen, gains, gain}
use Rattle.rules.proofs.Lists.{and_parts, and_both, holds_fails, any_one, not_any_in, in_up_from, up_from_in}
use Rattle.rules.proofs.SetBits.{has_empty, sets_equal, worth_has, worth_within}
use Rattle.rules.proofs.Needs.{meets_empty}
use Rattle.rules.proofs.Conditions.{chosen_need}

module _ (job : Job) where
  gain_has : (k s : ℕ) → k < length job.needs → has k (gain job s) ≡ gains job k s
  unfolding gain
  gain_has k s l = worth_has (λ i. gains job i s) (length job.needs) k l

  -- ---- a need that is gained

  pub gained_need : (k s : ℕ) → k < length job.needs → has k (gain job s) ≡ true
      → (meets (get_or job.needs k (column 0)) s ≡ true) × (allowed job s ≡ true)
  unfolding gains
  gained_need k s l h =
      let p = and_parts (meets_chosen job.needs k s) (allowed job s) (sym (gain_has k s l) ∙ h) in
      (sym (chosen_need job.needs k s l) ∙ p.0, p.1)

  pub need_gained : (k s : ℕ) → k < length job.needs → meets (get_or job.needs k (column 0)) s ≡ true → allowed job s ≡ true
      → has k (gain job s) ≡ true
  unfolding gains
  need_gained k s l m h =
      gain_has k s l ∙ and_both (meets_chosen job.needs k s) (allowed job s) (chosen_need job.needs k s l ∙ m) h

  -- ---- a set that gains something

  gains_one : (s : ℕ) → (gain job s ≡ 0 → ⊥) → (k : ℕ) × (k < length job.needs) × (has k (gain job s) ≡ true)
  unfolding gain
  gains_one s some = go (any_of gained (up_from 0 (length job.needs))) refl
    where
      gained : ℕ → Bool
      gained k = has k (gain job s)

      none : any_of gained (up_from 0 (length job.needs)) ≡ false → gain job s ≡ 0
      none e =
          sets_equal (length job.needs) (gain job s) 0 (worth_within (λ i. gains job i s) (length job.needs)) (pow_pos (length job.needs))
          λ i l. not_any_in gained e (up_from_in 0 (length job.needs) i zero-le (omega arith)) ∙ sym (has_empty i)

      go : (b : Bool) → any_of gained (up_from 0 (length job.needs)) ≡ b → (k : ℕ) × (k < length job.needs) × (has k (gain job s) ≡ true)
      go true e =
          let found = any_one gained (up_from 0 (length job.needs)) e in
          (found.0, omega (arith, in_up_from 0 (length job.needs) found.1), found.2)
      go false e = absurd (some (none e))

  pub gains_allowed : (s : ℕ) → (gain job s ≡ 0 → ⊥) → allowed job s ≡ true
  gains_allowed s some = let g = gains_one s some in (gained_need g.0 s g.1 g.2).1

  -- no need is true of the empty set
  pub gains_columns : (s : ℕ) → (gain job s ≡ 0 → ⊥) → 0 < s
  gains_columns zero some =
      let g = gains_one 0 some in
      let v = get_or job.needs g.0 (column 0) in
      holds_fails (meets v 0) (gained_need g.0 0 g.1 g.2).0 (meets_empty v)
  gains_columns (suc s) some = omega arith
