-- Laws of trying the sets of the free columns one after the other: what is known after each, and what the answer then is. Assumes nothing.
use mathlib.Core.Path.{◌≡◌, refl, sym, subst}
use mathlib.Core.Bool.{Bool, true, false, ◌&&◌}
use Prim.Native.Nat.{ℕ, suc, ◌-◌, ◌^◌, ◌≤◌, ◌<◌}
use native.Mathlib.Nat.{lt_of_le_of_lt}
use native.Mathlib.Omega.{arith}
use lib.Dec.{eqb, leb}
use lib.Bits.{bit_and, and_le_l}
use borrow.Author.Tests.{eq-eqb, ne_eqb, leb-true, le-leb}
use Rattle.rules.specs.Sets.{contains}
use Rattle.rules.proofs.Lists.{and_parts, and_both, holds_fails}
use Rattle.rules.proofs.Sets.{contains_and}
use Rattle.rules.proofs.Differences.{next_within}
use Rattle.parts.specs.Parts.{Inside, Bounded}
use Rattle.parts.proofs.LeanSets.{inside_own}
use Rattle.searching.specs.Serving.{Servable, Decides}
use Rattle.searching.specs.Searching.{ServableFrom, left_after, Wanted}
use Rattle.searching.specs.declared.task.Task.{Task}
use Rattle.searching.proofs.Serving.{inside_wider}
use Rattle.searching.proofs.Servables.{nothing_unmet, no_set_left, within_possible}
use Rattle.searching.proofs.Servables.{Suits, suits_served, none_above_all, none_above_next, none_serves}

pub refused : (P : Type 0) → (P → ⊥) → Decides false P
refused P n = record { sound = λ e. holds_fails false e refl; complete = λ p. absurd (n p) }

granted : (P : Type 0) → P → Decides true P
granted P p = record { sound = λ e. p; complete = λ q. refl }

pub denied : (P : Type 0) (test : Bool) → Decides test P → test ≡ false → P → ⊥
denied P test d e p = holds_fails test (d.complete p) e

-- ---- what is left to do is less, and the tables are right for it

pub bounded_part : (lean possible : ℕ → ℕ) (free part : ℕ) → contains free part ≡ true → Bounded lean possible free → Bounded lean possible part
bounded_part lean possible free part c b =
    record { nothing = b.nothing; bound = λ around s i j. b.bound around s (inside_wider part free around c i) j }

-- ---- answers without a trial

module _ (lean price : ℕ → ℕ) (task : Task) where
  pub all_met : task.unmet ≡ 0 → Decides (eqb task.unmet 0) (ServableFrom lean price task)
  all_met e =
      let met = granted (ServableFrom lean price task) (nothing_unmet lean price task.extracts task.free.bits task.unmet task.cost e) in
      rw (eq-eqb task.unmet 0 e) met

  module _ (some : task.unmet ≡ 0 → ⊥) where
    pub none_left : task.extracts ≡ 0 → Decides (eqb task.unmet 0) (ServableFrom lean price task)
    none_left e =
        let unmet = refused (ServableFrom lean price task) λ v.
        some (no_set_left lean price task.free.bits task.unmet task.cost
        (subst (λ (most : ℕ). Servable lean price most task.free.bits task.unmet task.cost) e v)) in
        rw (ne_eqb task.unmet 0 some) unmet

    pub not_possible : (possible : ℕ → ℕ) → task.free.bits < 2 ^ 16 → task.unmet < 2 ^ 16 → Bounded lean possible task.free.bits
        → (bit_and (possible task.free.bits) task.unmet ≡ task.unmet → ⊥) → Decides false (ServableFrom lean price task)
    not_possible possible b u bounded n =
        refused (ServableFrom lean price task) λ v.
        n (contains_and (possible task.free.bits) task.unmet u
        (within_possible lean price possible task.extracts task.free.bits task.unmet task.cost b bounded v))

module _ (lean price : ℕ → ℕ) (task : Task) (wanted : ℕ) where
  -- ---- what is known after so many sets

  -- the sets that would do
  abbrev pub Will : ℕ → Type 0
  Will s = Suits lean price (task.extracts - 1) task.free.bits task.unmet task.cost wanted s

  -- none above the number would do, and the number itself is a set of the free columns
  pub record Tried (number : ℕ) : Type 0 where
    pub inside : Inside task.free.bits number
    pub none_above : (s : ℕ) → number < s → Will s → ⊥

  pub tried_none : task.free.bits < 2 ^ 16 → Tried task.free.bits
  tried_none b =
      record {
        inside = inside_own task.free.bits b;
        none_above = none_above_all lean price (task.extracts - 1) task.free.bits task.unmet task.cost wanted;
      }

  pub tried_next : (number : ℕ) → Tried number → (Will number → ⊥) → Tried (bit_and (number - 1) task.free.bits)
  tried_next number t n =
      record {
        inside = record {
          small = lt_of_le_of_lt (and_le_l (number - 1) task.free.bits) (omega (arith, t.inside.small));
          within = next_within task.free.bits (number - 1);
        };
        none_above = none_above_next lean price (task.extracts - 1) task.free.bits task.unmet task.cost wanted number t.inside
            t.none_above n;
      }

  -- a set that does not suit would not do; nor one that leaves what can't be served
  pub not_suitable : (s : ℕ) → (contains (lean s) wanted && leb (price s) task.cost) ≡ false → Will s → ⊥
  not_suitable s e w =
      holds_fails (contains (lean s) wanted && leb (price s) task.cost)
      (and_both (contains (lean s) wanted) (leb (price s) task.cost) w.meets (le-leb (price s) task.cost w.payable)) e

  pub suitable_payable : (s : ℕ) → (contains (lean s) wanted && leb (price s) task.cost) ≡ true → price s ≤ task.cost
  suitable_payable s e = leb-true (price s) task.cost (and_parts (contains (lean s) wanted) (leb (price s) task.cost) e).1

  pub not_served : (s : ℕ) (rest : Task) → rest ≡ left_after price task s (lean s) → (ServableFrom lean price rest → ⊥) → Will s → ⊥
  not_served s rest l n w = n (subst (λ (r : Task). ServableFrom lean price r) (sym l) w.rest)

  -- ---- the answer

  some_left_lem : (task.extracts ≡ 0 → ⊥) → suc (task.extracts - 1) ≡ task.extracts
  some_left_lem left = omega (arith, left)

  pub found_one : (task.extracts ≡ 0 → ⊥) → (s : ℕ) → Inside task.free.bits s
      → (contains (lean s) wanted && leb (price s) task.cost) ≡ true → (rest : Task) → rest ≡ left_after price task s (lean s)
      → ServableFrom lean price rest → Decides true (ServableFrom lean price task)
  found_one left s i e rest l v =
      let p = and_parts (contains (lean s) wanted) (leb (price s) task.cost) e in
      let w : Will s =
      record {
        inside = i;
        meets = p.0;
        payable = leb-true (price s) task.cost p.1;
        rest = subst (λ (r : Task). ServableFrom lean price r) l v;
      } in
      granted (ServableFrom lean price task)
      (subst (λ (most : ℕ). Servable lean price most task.free.bits task.unmet task.cost) (some_left_lem left)
      (suits_served lean price (task.extracts - 1) task.free.bits task.unmet task.cost wanted s w))

  pub found_none : (task.unmet ≡ 0 → ⊥) → (task.extracts ≡ 0 → ⊥) → lean 0 ≡ 0 → wanted < 2 ^ 16 → Wanted task.extracts task.unmet wanted
      → Tried 0 → Decides false (ServableFrom lean price task)
  found_none some left empty b w t =
      refused (ServableFrom lean price task) λ v.
      none_serves lean price (task.extracts - 1) task.free.bits task.unmet task.cost wanted empty some b
      (subst (λ (most : ℕ). Wanted most task.unmet wanted) (sym (some_left_lem left)) w) t.none_above
      (subst (λ (most : ℕ). Servable lean price most task.free.bits task.unmet task.cost) (sym (some_left_lem left)) v)
