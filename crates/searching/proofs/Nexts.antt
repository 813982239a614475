-- Laws of the set that a best list goes on with, as the code finds it. Assumes nothing.
use mathlib.Core.Path.{◌≡◌, sym, subst, ◌∙◌}
use mathlib.Core.Bool.{Bool, true, false}
use Prim.Native.Nat.{ℕ, ◌+◌, ◌^◌, ◌≤◌, ◌<◌}
use native.Mathlib.Decide.{dec_lt}
use native.Mathlib.Omega.{arith}
use lib.Bits.{bit_and}
use borrow.Author.Tests.{eq-eqb, ne_eqb}
use Rattle.rules.specs.Sets.{all_sets, contains, apart}
use Rattle.rules.proofs.Lists.{holds_fails}
use Rattle.rules.proofs.Sets.{apart_bits}
use Rattle.parts.specs.Parts.{Inside}
use Rattle.searching.specs.Serving.{Decides}
use Rattle.searching.specs.Searching.{ServableFrom, left_after, Next, SomeNext, FirstNext}
use Rattle.searching.specs.declared.task.Task.{Task}
use Rattle.searching.proofs.Trying.{refused, denied}

-- ---- whether a set is the next

module _ (gain price : ℕ → ℕ) (task : Task) (s : ℕ) where
  pub meets_nothing : task.unmet < 2 ^ 16 → bit_and (gain s) task.unmet ≡ 0 → Decides false (Next gain price task s)
  meets_nothing b e =
      refused (Next gain price task s) λ n.
      holds_fails (apart (gain s) task.unmet) (apart_bits (gain s) task.unmet b ∙ eq-eqb (bit_and (gain s) task.unmet) 0 e) n.useful

  pub not_free : contains task.free.bits s ≡ false → Decides false (Next gain price task s)
  not_free e = refused (Next gain price task s) (λ n. holds_fails (contains task.free.bits s) n.inside.within e)

  pub too_dear : task.cost < price s → Decides false (Next gain price task s)
  too_dear l = refused (Next gain price task s) (λ n. omega (arith, n.payable))

  pub goes_on_lem : task.unmet < 2 ^ 16 → (bit_and (gain s) task.unmet ≡ 0 → ⊥) → Inside task.free.bits s → price s ≤ task.cost
      → (rest : Task) → rest ≡ left_after price task s (gain s) → (can : Bool) → Decides can (ServableFrom gain price rest)
      → Decides can (Next gain price task s)
  goes_on_lem b some inside payable rest l can d =
      record {
        sound = λ e. record {
          inside = inside;
          useful = apart_bits (gain s) task.unmet b ∙ ne_eqb (bit_and (gain s) task.unmet) 0 some;
          payable = payable;
          rest = subst (λ (r : Task). ServableFrom gain price r) l (d.sound e);
        };
        complete = λ n. d.complete (subst (λ (r : Task). ServableFrom gain price r) (sym l) n.rest);
      }

-- ---- the first from a number on

module _ (gain price : ℕ → ℕ) (task : Task) (from : ℕ) where
  -- the search has come to a number and found none from where it began
  pub record Passed (number : ℕ) : Type 0 where
    pub later : from ≤ number
    pub near : number ≤ all_sets
    pub none : (t : ℕ) → from ≤ t → t < number → Next gain price task t → ⊥

  pub passed_none : SomeNext gain price task from → Passed from
  passed_none m =
      record { later = omega arith; near = omega (arith, m.later, m.next.inside.small); none = λ t l h n. absurd (omega arith) }

  pub passed_one : (number : ℕ) → Passed number → number < all_sets → (test : Bool) → Decides test (Next gain price task number) → test ≡ false
      → Passed (number + 1)
  passed_one number p l test d e =
      record { later = omega (arith, p.later); near = omega arith; none = λ t h k n. go t h k n (dec_lt t number) }
    where
      go : (t : ℕ) → from ≤ t → t < number + 1 → Next gain price task t → Dec (t < number) → ⊥
      go t h k n (yes m) = p.none t h m n
      go t h k n (no m) =
          let same : t ≡ number = omega arith in
          denied (Next gain price task number) test d e (subst (λ (x : ℕ). Next gain price task x) same n)

  pub passed_all : SomeNext gain price task from → (number : ℕ) → Passed number → all_sets ≤ number → FirstNext gain price task from number
  passed_all m number p l = absurd (p.none m.set m.later (omega (arith, m.next.inside.small)) m.next)

  pub found_next : (number : ℕ) → Passed number → (test : Bool) → Decides test (Next gain price task number) → test ≡ true
      → FirstNext gain price task from number
  found_next number p test d e = record { next = d.sound e; later = p.later; none_before = p.none }
