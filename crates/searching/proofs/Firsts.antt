-- Laws of the best list: each of its sets is the smallest that a best list can go on with, and none below the one before need be tried. Assumes
-- nothing.
use mathlib.Core.Path.{◌≡◌, refl, sym, ap, subst}
use mathlib.Core.Bool.{Bool, true, false}
use mathlib.Core.List.{List, [], ◌∷◌}
use Prim.Native.Nat.{ℕ, suc, ◌+◌, ◌-◌, ◌^◌, ◌≤◌, ◌<◌}
use native.Mathlib.Decide.{dec_lt}
use native.Mathlib.Omega.{arith}
use lib.ListN.{length}
use Rattle.rules.specs.Sets.{apart, without}
use Rattle.rules.specs.Plans.{not_after}
use Rattle.rules.proofs.Lists.{holds_fails}
use Rattle.rules.proofs.Orders.{ahead_smaller, ahead_same}
use Rattle.rules.proofs.Sets.{contains_refl, apart_part}
use Rattle.rules.proofs.Differences.{contains_without, left_swap, left_apart, left_whole}
use Rattle.parts.proofs.LeanSets.{inside_rest}
use Rattle.searching.specs.Serving.{Serves, total, Least, First, Completes}
use Rattle.searching.proofs.Serving.{inside_after, serves_wider}

module _ (gain price : ℕ → ℕ) where
  -- ---- the sets that a best list can go on with

  module _ (further free unmet cost : ℕ) (small : unmet < 2 ^ 16) (least : Least gain price (suc further) free unmet cost) where
    -- a set that meets nothing could be left out
    useful : (s : ℕ) (rest : List ℕ) → Serves gain free unmet (s ∷ rest) → length rest ≤ further → apart (gain s) unmet ≡ false
    unfolding Serves
    useful s rest e l = go (apart (gain s) unmet) refl
      where
        go : (b : Bool) → apart (gain s) unmet ≡ b → apart (gain s) unmet ≡ false
        go false a = a
        go true a =
            let same = subst (λ (u : ℕ). Serves gain (without free s) u rest) (left_whole unmet (gain s) small a) e.1 in
            absurd (omega (arith, least.fewest rest (serves_wider gain rest (without free s) free unmet (contains_without free s) same)))

    pub front_completes : (s : ℕ) (rest : List ℕ) → Serves gain free unmet (s ∷ rest) → length rest ≤ further → price s + total price rest ≤ cost
        → Completes gain price further free unmet cost s
    unfolding Serves
    front_completes s rest e l c =
        record {
          inside = e.0;
          useful = useful s rest e l;
          payable = omega arith;
          rest = record { split = rest; few = l; cheap = omega arith; serves = e.1 };
        }

    pub some_completes : (s : ℕ) × Completes gain price further free unmet cost s
    unfolding Serves total
    some_completes = go least.servable.split least.servable.few least.servable.cheap least.servable.serves
      where
        go : (split : List ℕ) → length split ≤ suc further → total price split ≤ cost → Serves gain free unmet split
            → (s : ℕ) × Completes gain price further free unmet cost s
        go [] l c e = absurd (omega (arith, least.fewest [] e))
        go (s ∷ rest) l c e = (s, front_completes s rest e (omega arith) c)

    module _ (s : ℕ) (next : Completes gain price further free unmet cost s) where
      -- what is left when it is taken can't be had with fewer sets or for less
      pub least_after : Least gain price further (without free s) (without unmet (gain s)) (cost - price s)
      unfolding Serves total
      least_after =
          record {
            servable = next.rest;
            fewest = λ other e. omega (arith, least.fewest (s ∷ other) (next.inside, e));
            cheapest = λ other e l. omega (arith, least.cheapest (s ∷ other) (next.inside, e) (omega arith));
          }

      module _ (none_smaller : (t : ℕ) → t < s → Completes gain price further free unmet cost t → ⊥) where
        pub first_after : (rest : List ℕ) → First gain price further (without free s) (without unmet (gain s)) (cost - price s) rest
            → First gain price (suc further) free unmet cost (s ∷ rest)
        unfolding Serves total
        first_after rest f =
            record {
              serves = (next.inside, f.serves);
              as_many = ap suc f.as_many;
              as_dear = omega (arith, f.as_dear, next.payable);
              first = before;
            }
          where
            before : (other : List ℕ) → Serves gain free unmet other → length other ≡ suc further → total price other ≡ cost
                → not_after (s ∷ rest) other ≡ true
            before [] e m d = absurd (omega arith)
            before (o ∷ others) e m d = go (dec_lt s o) (dec_lt o s)
              where
                completes : Completes gain price further free unmet cost o
                completes = front_completes o others e (omega arith) (omega arith)

                go : Dec (s < o) → Dec (o < s) → not_after (s ∷ rest) (o ∷ others) ≡ true
                go (yes l) k = ahead_smaller s o rest others l
                go (no l) (yes k) = absurd (none_smaller o k completes)
                go (no l) (no k) =
                    let same : o ≡ s = omega arith in
                    ahead_same s o rest others (sym same)
                    (f.first others (subst (λ (x : ℕ). Serves gain (without free x) (without unmet (gain x)) others) same e.1) (omega arith)
                    (omega (arith, ap price same)))

  -- ---- none below is tried again

  module _ (further free unmet cost s : ℕ) (next : Completes gain price (suc further) free unmet cost s)
      (none_smaller : (t : ℕ) → t < s → Completes gain price (suc further) free unmet cost t → ⊥) where
    -- a set that could come after it could have come before it
    swapped : (t : ℕ) → Completes gain price further (without free s) (without unmet (gain s)) (cost - price s) t
        → Completes gain price (suc further) free unmet cost t
    unfolding Serves total
    swapped t c =
        record {
          inside = inside_rest free s t c.inside;
          useful = go (apart (gain t) unmet) refl;
          payable = omega (arith, c.payable);
          rest = record {
            split = s ∷ c.rest.split;
            few = omega (arith, c.rest.few);
            cheap = omega (arith, c.rest.cheap, c.payable, next.payable);
            serves = (
              inside_after free s t next.inside c.inside,
              subst (λ (f : ℕ). Serves gain f (without (without unmet (gain t)) (gain s)) c.rest.split) (left_swap free s t)
                  (subst (λ (u : ℕ). Serves gain (without (without free s) t) u c.rest.split) (left_swap unmet (gain s) (gain t)) c.rest.serves),
            );
          };
        }
      where
        go : (b : Bool) → apart (gain t) unmet ≡ b → apart (gain t) unmet ≡ false
        go false a = a
        go true a =
            holds_fails (apart (gain t) (without unmet (gain s))) (apart_part (gain t) unmet (without unmet (gain s)) a (contains_without unmet (gain s)))
            c.useful

    pub none_again : (t : ℕ) → t < s + 1 → Completes gain price further (without free s) (without unmet (gain s)) (cost - price s) t → ⊥
    none_again t l c = go (dec_lt t s)
      where
        go : Dec (t < s) → ⊥
        go (yes h) = none_smaller t h (swapped t c)
        go (no h) =
            let same : t ≡ s = omega arith in
            let useful : apart (gain s) (without unmet (gain s)) ≡ false =
            subst (λ (x : ℕ). apart (gain x) (without unmet (gain s)) ≡ false) same c.useful in
            holds_fails (apart (gain s) (without unmet (gain s)))
            (left_apart unmet (gain s) (without unmet (gain s)) (contains_refl (without unmet (gain s)))) useful
