-- A table of which needs each set meets, one need more. Assumes nothing.
use mathlib.Core.Path.{◌≡◌, sym, ap, ◌∙◌}
use mathlib.Core.Bool.{Bool, cond}
use mathlib.Core.List.{List}
use Prim.Native.Nat.{ℕ, ◌+◌, ◌^◌, ◌≤◌, ◌<◌}
use native.Mathlib.Nat.{zero-add}
use native.Mathlib.Numerals.{add-one}
use native.Mathlib.Omega.{arith}
use lib.ListN.{length, get_or, replicate, get_or-replicate}
use Rattle.rules.specs.Lists.{up_from}
use Rattle.rules.specs.Sets.{worth}
use Rattle.rules.specs.Jobs.{Job}
use Rattle.rules.specs.Conditions.{condition, gains, gain}
use Rattle.rules.proofs.Conditions.{gains_condition}
use Rattle.rules.proofs.Counting.{up_from_last}
use Rattle.rules.proofs.SetBits.{worth_append, worth_within}
use Rattle.tables.specs.Tables.{Valued}

-- ---- the worth of a set by the first needs

-- which of the first so many needs a set gains
abbrev pub gain_of : Job → ℕ → ℕ → ℕ
gain_of job k s = worth (λ i. gains job i s) (up_from 0 k)

gain_more : (job : Job) (k s : ℕ) → gain_of job (k + 1) s ≡ gain_of job k s + cond (condition job k s) (2 ^ k) 0
gain_more job k s =
    rw (add-one, up_from_last 0 k, zero-add)
    (worth_append (λ i. gains job i s) (up_from 0 k) k ∙ ap (λ (b : Bool). gain_of job k s + cond b (2 ^ k) 0) (gains_condition job k s))

-- ---- a table of the worths

module _ (job : Job) (count : ℕ) (numbers : List ℕ) where
  pub gains_none : (places : ℕ) → count ≤ places → numbers ≡ replicate places 0 → Valued count (gain_of job 0) numbers
  unfolding worth up_from
  gains_none places h e s l = ap (λ (t : List ℕ). get_or t s 0) e ∙ get_or-replicate places s 0 0 (omega arith)

  pub gains_more : (k : ℕ) → Valued count (λ s. gain_of job k s + cond (condition job k s) (2 ^ k) 0) numbers → Valued count (gain_of job (k + 1)) numbers
  gains_more k listed s l = listed s l ∙ sym (gain_more job k s)

  pub gains_below : (k : ℕ) → Valued count (gain_of job k) numbers → (s : ℕ) → s < count → get_or numbers s 0 < 2 ^ k
  gains_below k listed s l = rw (listed s l) (worth_within (λ i. gains job i s) k)

  pub gains_all : (k : ℕ) → length job.needs ≡ k → Valued count (gain_of job k) numbers → Valued count (gain job) numbers
  unfolding gain
  gains_all k e listed s l = listed s l ∙ ap (λ (n : ℕ). gain_of job n s) (sym e)
