-- Laws of lists that serve, for any value of a set: each set lies within the free columns, no two share a column, each unmet need is met by one
-- of them, and such lists serve. Assumes nothing.
use mathlib.Core.Path.{◌≡◌, refl, sym, ap, subst, ◌∙◌}
use mathlib.Core.Bool.{Bool, true, false}
use mathlib.Core.List.{List, [], ◌∷◌, Memᴰ}
use Prim.Native.Nat.{ℕ, suc, ◌^◌, ◌<◌}
use lib.ListN.{length}
use Rattle.rules.specs.Lists.{every}
use Rattle.rules.specs.Sets.{has, without}
use Rattle.rules.specs.Jobs.{Job, unlinked}
use Rattle.rules.specs.Splits.{all_unlinked}
use Rattle.rules.proofs.Lists.{and_parts, and_both, holds_fails, every_in, every_all}
use Rattle.rules.proofs.Jobs.{unlinked_apart, unlinked_means}
use Rattle.rules.proofs.SetBits.{has_empty}
use Rattle.rules.proofs.Sets.{has_contains, has_apart, without_below}
use Rattle.rules.proofs.Differences.{left_has, has_left, contains_without, left_apart, apart_left, left_whole, within_empty}
use Rattle.parts.specs.Parts.{Inside}
use Rattle.searching.specs.Serving.{Serves}
use Rattle.searching.proofs.Serving.{serves_wider}
use Rattle.parts.proofs.LeanSets.{inside_rest}

module _ (value : ℕ → ℕ) where
  -- one of the sets meets the need
  abbrev pub MetBy : List ℕ → ℕ → Type 0
  MetBy split need = (s : ℕ) × Memᴰ s split × (has need (value s) ≡ true)

  -- ---- what a list that serves is made of

  pub serves_inside : (split : List ℕ) (free unmet : ℕ) → Serves value free unmet split → (s : ℕ) → Memᴰ s split → Inside free s
  unfolding Serves
  serves_inside (t ∷ split) free unmet e s (Memᴰ.head q) = subst (λ (x : ℕ). Inside free x) (sym q) e.0
  serves_inside (t ∷ split) free unmet e s (Memᴰ.tail m) =
      inside_rest free t s (serves_inside split (without free t) (without unmet (value t)) e.1 s m)
  serves_inside [] free unmet e s m = elim m [ ]

  pub serves_unlinked : (job : Job) (split : List ℕ) (free unmet : ℕ) → Serves value free unmet split → all_unlinked job split ≡ true
  unfolding Serves all_unlinked
  serves_unlinked job [] free unmet e = refl
  serves_unlinked job (s ∷ split) free unmet e =
      and_both (every (unlinked job s) split) (all_unlinked job split)
      (every_all (unlinked job s) split λ t m.
      unlinked_apart job s t ∙ left_apart free s t (serves_inside split (without free s) (without unmet (value s)) e.1 t m).within)
      (serves_unlinked job split (without free s) (without unmet (value s)) e.1)

  pub serves_met : (split : List ℕ) (free unmet : ℕ) → Serves value free unmet split → (i : ℕ) → i < 16 → has i unmet ≡ true → MetBy split i
  unfolding Serves
  serves_met [] free unmet e i l h = holds_fails (has i unmet) h (ap (has i) e ∙ has_empty i)
  serves_met (s ∷ split) free unmet e i l h =
      go (has i (value s)) refl (λ n. serves_met split (without free s) (without unmet (value s)) e.1 i l (has_left unmet (value s) i l h n))
    where
      go : (b : Bool) → has i (value s) ≡ b → (has i (value s) ≡ false → MetBy split i) → MetBy (s ∷ split) i
      go true m later = (s, Memᴰ.head refl, m)
      go false m later = let t = later m in (t.0, Memᴰ.tail t.1, t.2)

  -- ---- a set that meets nothing can be left out

  -- a list that serves as well with one set fewer
  pub record Spared (free unmet : ℕ) (split : List ℕ) : Type 0 where
    pub others : List ℕ
    pub serves : Serves value free unmet others
    pub fewer : length split ≡ suc (length others)

  pub idle_spared : (split : List ℕ) (free unmet : ℕ) → unmet < 2 ^ 16 → Serves value free unmet split → (s : ℕ) → Memᴰ s split
      → value s ≡ 0 → Spared free unmet split
  unfolding Serves
  idle_spared (t ∷ split) free unmet b e s (Memᴰ.head q) z =
      let none : without unmet (value t) ≡ unmet =
      ap (without unmet) (sym (ap value q) ∙ z) ∙ left_whole unmet 0 b (has_apart 0 unmet (λ i l h. has_empty i)) in
      record {
        others = split;
        serves = serves_wider value split (without free t) free unmet (contains_without free t)
            (subst (λ (u : ℕ). Serves value (without free t) u split) none e.1);
        fewer = refl;
      }
  idle_spared (t ∷ split) free unmet b e s (Memᴰ.tail m) z =
      let rest = idle_spared split (without free t) (without unmet (value t)) (without_below unmet (value t)) e.1 s m z in
      record { others = t ∷ rest.others; serves = (e.0, rest.serves); fewer = ap suc rest.fewer }
  idle_spared [] free unmet b e s m z = elim m [ ]

  -- ---- a list made so serves

  pub made_serves : (job : Job) (split : List ℕ) (free unmet : ℕ) → unmet < 2 ^ 16 → ((s : ℕ) → Memᴰ s split → Inside free s)
      → all_unlinked job split ≡ true → ((i : ℕ) → i < 16 → has i unmet ≡ true → MetBy split i) → Serves value free unmet split
  unfolding Serves all_unlinked
  made_serves job [] free unmet b inside links met =
      within_empty unmet b (has_contains 0 unmet (λ i l h. elim (met i l h).1 [ ]))
  made_serves job (s ∷ split) free unmet b inside links met = (
    inside s (Memᴰ.head refl),
    made_serves job split (without free s) (without unmet (value s)) (without_below unmet (value s)) (λ t m. left t m (inside t (Memᴰ.tail m)))
        parts.1 (λ i l h. let p = left_has unmet (value s) i l h in later i p.1 (met i l p.0)),
  )
    where
      parts : (every (unlinked job s) split ≡ true) × (all_unlinked job split ≡ true)
      parts = and_parts (every (unlinked job s) split) (all_unlinked job split) links

      left : (t : ℕ) → Memᴰ t split → Inside free t → Inside (without free s) t
      left t m i = record { small = i.small; within = apart_left free s t i.within (unlinked_means job s t (every_in (unlinked job s) parts.0 m)) }

      later : (i : ℕ) → has i (value s) ≡ false → MetBy (s ∷ split) i → MetBy split i
      later i n (t, Memᴰ.head q, h) = holds_fails (has i (value t)) h (ap (λ (x : ℕ). has i (value x)) q ∙ n)
      later i n (t, Memᴰ.tail m, h) = (t, m, h)
