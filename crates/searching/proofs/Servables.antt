-- Laws of what at most so many sets at most at such a cost can serve: with nothing unmet always, with no set left never, else exactly if some set
-- that meets a wanted need leaves what one set fewer can serve. Assumes nothing.
use mathlib.Core.Path.{◌≡◌, refl, sym, ap, subst, ◌∙◌}
use mathlib.Core.Logic.{inl, inr}
use mathlib.Core.Bool.{Bool, true, false}
use mathlib.Core.List.{List, [], ◌∷◌}
use Prim.Native.Nat.{ℕ, zero, suc, ◌-◌, ◌^◌, ◌≤◌, ◌<◌}
use native.Mathlib.Decide.{dec_lt}
use native.Mathlib.Omega.{arith}
use lib.Bits.{bit_and}
use lib.ListN.{length}
use lib.Pow.{pow_pos}
use Rattle.rules.specs.Sets.{has, contains, without}
use Rattle.rules.proofs.Lists.{holds_fails}
use Rattle.rules.proofs.SetBits.{has_empty}
use Rattle.rules.proofs.Sets.{contains_column, contains_le, has_contains}
use Rattle.rules.proofs.SetColumns.{has_only}
use Rattle.rules.proofs.Differences.{has_left, within_empty, next_down}
use Rattle.parts.specs.Parts.{Inside, Bounded}
use Rattle.parts.proofs.LeanSets.{inside_own}
use Rattle.searching.specs.Serving.{Serves, total, Servable}
use Rattle.searching.specs.Searching.{Wanted}
use Rattle.searching.proofs.Serving.{TakenOut, take_out}

module _ (gain price : ℕ → ℕ) where
  pub nothing_unmet : (most free unmet cost : ℕ) → unmet ≡ 0 → Servable gain price most free unmet cost
  unfolding Serves total
  nothing_unmet most free unmet cost e = record { split = []; few = omega arith; cheap = omega arith; serves = e }

  pub servable_dearer : (most free unmet cost more : ℕ) → cost ≤ more → Servable gain price most free unmet cost
      → Servable gain price most free unmet more
  servable_dearer most free unmet cost more l v =
      record { split = v.split; few = v.few; cheap = omega (arith, v.cheap); serves = v.serves }

  pub no_set_left : (free unmet cost : ℕ) → Servable gain price 0 free unmet cost → unmet ≡ 0
  unfolding Serves
  no_set_left free unmet cost v = go v.split v.few v.serves
    where
      go : (split : List ℕ) → length split ≤ 0 → Serves gain free unmet split → unmet ≡ 0
      go [] l e = e
      go (s ∷ split) l e = absurd (omega arith)

  -- the set of a list that meets a need, as part of what can be served
  out : (further free unmet cost need : ℕ) → need < 16 → has need unmet ≡ true → (v : Servable gain price further free unmet cost)
      → TakenOut gain price free unmet need v.split
  out further free unmet cost need l h v = take_out gain price v.split free unmet need l h v.serves

  pub within_possible : (possible : ℕ → ℕ) (most free unmet cost : ℕ) → free < 2 ^ 16 → Bounded gain possible free
      → Servable gain price most free unmet cost → contains (possible free) unmet ≡ true
  within_possible possible most free unmet cost b bounded v =
      has_contains (possible free) unmet λ i l h.
      let o = out most free unmet cost i l h v in
      contains_column (possible free) (gain o.set) i l (bounded.bound free o.set (inside_own free b) o.inside) o.meets

  -- ---- a set that is tried

  pub record Suits (further free unmet cost wanted s : ℕ) : Type 0 where
    pub inside : Inside free s
    pub meets : contains (gain s) wanted ≡ true
    pub payable : price s ≤ cost
    pub rest : Servable gain price further (without free s) (without unmet (gain s)) (cost - price s)

  module _ (further free unmet cost wanted : ℕ) where
    pub suits_served : (s : ℕ) → Suits further free unmet cost wanted s → Servable gain price (suc further) free unmet cost
    unfolding Serves total
    suits_served s u =
        record {
          split = s ∷ u.rest.split;
          few = omega (arith, u.rest.few);
          cheap = omega (arith, u.rest.cheap, u.payable);
          serves = (u.inside, u.rest.serves);
        }

    -- the last set must meet all
    last_suits : (unmet ≡ 0 → ⊥) → suc further ≡ 1 → wanted ≡ unmet → Servable gain price (suc further) free unmet cost
        → (s : ℕ) × Suits further free unmet cost wanted s
    unfolding Serves total
    last_suits some e w v = go v.split v.few v.cheap v.serves
      where
        all : (s : ℕ) → without unmet (gain s) ≡ 0 → contains (gain s) unmet ≡ true
        all s none = has_contains (gain s) unmet (λ i l h. met i l h (has i (gain s)) refl)
          where
            met : (i : ℕ) → i < 16 → has i unmet ≡ true → (b : Bool) → has i (gain s) ≡ b → b ≡ true
            met i l h true m = refl
            met i l h false m = holds_fails (has i (without unmet (gain s))) (has_left unmet (gain s) i l h m) (ap (has i) none ∙ has_empty i)

        go : (split : List ℕ) → length split ≤ suc further → total price split ≤ cost → Serves gain free unmet split
            → (s : ℕ) × Suits further free unmet cost wanted s
        go [] l c f = absurd (some f)
        go (s ∷ []) l c f = (
          s,
          record {
            inside = f.0;
            meets = subst (λ (u : ℕ). contains (gain s) u ≡ true) (sym w) (all s f.1);
            payable = omega arith;
            rest = nothing_unmet further (without free s) (without unmet (gain s)) (cost - price s) f.1;
          },
        )
        go (s ∷ t ∷ split) l c f = absurd (omega arith)

    -- any need will do to go by
    need_suits : (need : ℕ) → need < 8 → has need unmet ≡ true → wanted ≡ 2 ^ need → Servable gain price (suc further) free unmet cost
        → (s : ℕ) × Suits further free unmet cost wanted s
    need_suits need l h w v =
        let o = out (suc further) free unmet cost need (omega arith) h v in (
          o.set,
          record {
            inside = o.inside;
            meets = has_contains (gain o.set) wanted λ i b e.
                subst (λ (k : ℕ). has k (gain o.set) ≡ true) (sym (has_only need i (sym (ap (has i) w) ∙ e))) o.meets;
            payable = omega (arith, o.dear, v.cheap);
            rest = record {
              split = o.others;
              few = omega (arith, o.many, v.few);
              cheap = omega (arith, o.dear, v.cheap);
              serves = o.serves;
            };
          },
        )

    pub some_suits : (unmet ≡ 0 → ⊥) → Wanted (suc further) unmet wanted → Servable gain price (suc further) free unmet cost
        → (s : ℕ) × Suits further free unmet cost wanted s
    some_suits some (inl w) v = last_suits some w.0 w.1 v
    some_suits some (inr w) v = need_suits w.0 w.1 w.2 w.3 v

    -- ---- all sets of the free columns tried, from the largest number down

    abbrev pub NoneAbove : ℕ → Type 0
    NoneAbove number = (s : ℕ) → number < s → Suits further free unmet cost wanted s → ⊥

    pub none_above_all : NoneAbove free
    none_above_all s l u = omega (arith, contains_le free s u.inside.small u.inside.within)

    pub none_above_next : (number : ℕ) → Inside free number → NoneAbove number → (Suits further free unmet cost wanted number → ⊥)
        → NoneAbove (bit_and (number - 1) free)
    none_above_next number i above here s l u = go (dec_lt number s) (dec_lt s number)
      where
        go : Dec (number < s) → Dec (s < number) → ⊥
        go (yes h) d = above s h u
        go (no h) (yes k) = omega (arith, next_down free number s i.small i.within u.inside.small u.inside.within k)
        go (no h) (no k) = let e : s ≡ number = omega arith in here (subst (λ (n : ℕ). Suits further free unmet cost wanted n) e u)

    pub none_serves : gain 0 ≡ 0 → (unmet ≡ 0 → ⊥) → wanted < 2 ^ 16 → Wanted (suc further) unmet wanted → NoneAbove 0
        → Servable gain price (suc further) free unmet cost → ⊥
    none_serves empty some b w above v =
        let u = some_suits some w v in
        go u.0 u.1
      where
        positive : Wanted (suc further) unmet wanted → wanted ≡ 0 → ⊥
        positive (inl p) e = some (sym p.1 ∙ e)
        positive (inr p) e = omega (arith, pow_pos p.0, p.3)

        go : (s : ℕ) → Suits further free unmet cost wanted s → ⊥
        go zero u = positive w (within_empty wanted b (subst (λ (g : ℕ). contains g wanted ≡ true) empty u.meets))
        go (suc s) u = above (suc s) (omega arith) u
