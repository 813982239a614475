-- A correct split can do without the extracts that serve no need of their own, so the planner's has at most as many as there are needs.
-- Assumes nothing.
use mathlib.Core.Path.{◌≡◌, refl, sym, ap, ◌∙◌}
use mathlib.Core.Bool.{Bool, true, false, not, cond, not-not}
use mathlib.Core.List.{List, [], ◌∷◌, Memᴰ}
use Prim.Native.Nat.{ℕ, ◌≤◌}
use native.Mathlib.Omega.{arith}
use lib.ListN.{length}
use borrow.Author.Tests.{not-true}
use Rattle.rules.specs.Lists.{every, any_of, keep}
use Rattle.rules.specs.Needs.{Need, meets}
use Rattle.rules.specs.Jobs.{Job, allowed, unlinked}
use Rattle.rules.specs.Splits.{proper, all_unlinked, met, correct}
use Rattle.rules.specs.Plans.{Planned}
use Rattle.rules.proofs.Lists.{and_parts, and_both, every_in, every_all, any_in, not_any_in, or_right, keep_in, in_keep, keep_fewer}
use Rattle.rules.proofs.Splits.{correct_parts, parts_correct}
use Rattle.rules.proofs.Plans.{planned_fewest}

-- the set does not meet the need
abbrev misses : ℕ → Need → Bool
misses s v = not (meets v s)

-- the extracts that meet a need which no extract before them met
useful : List Need → List ℕ → List ℕ
useful needs [] = []
useful needs (s ∷ split) =
    cond (any_of (λ v. not (misses s v)) needs) (s ∷ useful (keep (misses s) needs) split) (useful needs split)

useful_in : (needs : List Need) (t : ℕ) (split : List ℕ) → Memᴰ t (useful needs split) → Memᴰ t split
unfolding useful
useful_in needs t [] m = m
useful_in needs t (s ∷ split) m = go (any_of (λ v. not (misses s v)) needs) (useful_in (keep (misses s) needs) t split) (useful_in needs t split) m
  where
    go : (b : Bool) → (Memᴰ t (useful (keep (misses s) needs) split) → Memᴰ t split)
        → (Memᴰ t (useful needs split) → Memᴰ t split)
        → Memᴰ t (cond b (s ∷ useful (keep (misses s) needs) split) (useful needs split)) → Memᴰ t (s ∷ split)
    go true f g (Memᴰ.head e) = Memᴰ.head e
    go true f g (Memᴰ.tail i) = Memᴰ.tail (f i)
    go false f g i = Memᴰ.tail (g i)

useful_few : (needs : List Need) (split : List ℕ) → length (useful needs split) ≤ length needs
unfolding useful
useful_few needs [] = omega arith
useful_few needs (s ∷ split) = go (any_of (λ v. not (misses s v)) needs) refl (useful_few (keep (misses s) needs) split) (useful_few needs split)
  where
    go : (b : Bool) → any_of (λ v. not (misses s v)) needs ≡ b → length (useful (keep (misses s) needs) split) ≤ length (keep (misses s) needs)
        → length (useful needs split) ≤ length needs → length (cond b (s ∷ useful (keep (misses s) needs) split) (useful needs split)) ≤ length needs
    go true e f g = omega (arith, keep_fewer (misses s) needs e)
    go false e f g = g

-- a need that the first extract misses is met by the others
met_later : (s : ℕ) (split : List ℕ) (v : Need) → met (s ∷ split) v ≡ true → meets v s ≡ false → met split v ≡ true
unfolding met any_of
met_later s split v e n = rw n at e

met_first : (s : ℕ) (split : List ℕ) (v : Need) → meets v s ≡ true → met (s ∷ split) v ≡ true
unfolding met
met_first s split v e = any_in (meets v) (Memᴰ.head refl) e

met_more : (s : ℕ) (split : List ℕ) (v : Need) → met split v ≡ true → met (s ∷ split) v ≡ true
unfolding met any_of
met_more s split v e = or_right (meets v s) (any_of (meets v) split) e

useful_met : (needs : List Need) (split : List ℕ) → every (met split) needs ≡ true → every (met (useful needs split)) needs ≡ true
unfolding useful
useful_met needs [] e = e
useful_met needs (s ∷ split) e = go (any_of (λ v. not (misses s v)) needs) refl (useful_met (keep (misses s) needs) split) (useful_met needs split)
  where
    go : (b : Bool) → any_of (λ v. not (misses s v)) needs ≡ b
        → (every (met split) (keep (misses s) needs) ≡ true → every (met (useful (keep (misses s) needs) split)) (keep (misses s) needs) ≡ true)
        → (every (met split) needs ≡ true → every (met (useful needs split)) needs ≡ true)
        → every (met (cond b (s ∷ useful (keep (misses s) needs) split) (useful needs split))) needs ≡ true
    go true q f g = every_all (met (s ∷ rest)) needs (λ v m. served v m (meets v s) refl)
      where
        rest : List ℕ
        rest = useful (keep (misses s) needs) split

        others : every (met rest) (keep (misses s) needs) ≡ true
        others =
            f (every_all (met split) (keep (misses s) needs) (λ v m. let k = in_keep (misses s) v needs m in
            met_later s split v (every_in (met (s ∷ split)) e k.0) (not-true (meets v s) k.1)))

        served : (v : Need) → Memᴰ v needs → (b : Bool) → meets v s ≡ b → met (s ∷ rest) v ≡ true
        served v m true h = met_first s rest v h
        served v m false h = met_more s rest v (every_in (met rest) others (keep_in (misses s) m (ap not h)))
    go false q f g =
        g (every_all (met split) needs (λ v m.
        met_later s split v (every_in (met (s ∷ split)) e m) (sym (not-not (meets v s)) ∙ not_any_in (λ w. not (misses s w)) q m)))

useful_unlinked : (job : Job) (needs : List Need) (split : List ℕ) → all_unlinked job split ≡ true → all_unlinked job (useful needs split) ≡ true
unfolding useful all_unlinked
useful_unlinked job needs [] e = e
useful_unlinked job needs (s ∷ split) e =
    go (any_of (λ v. not (misses s v)) needs) (useful_unlinked job (keep (misses s) needs) split parts.1) (useful_unlinked job needs split parts.1)
  where
    parts : (every (unlinked job s) split ≡ true) × (all_unlinked job split ≡ true)
    parts = and_parts (every (unlinked job s) split) (all_unlinked job split) e

    go : (b : Bool) → all_unlinked job (useful (keep (misses s) needs) split) ≡ true → all_unlinked job (useful needs split) ≡ true
        → all_unlinked job (cond b (s ∷ useful (keep (misses s) needs) split) (useful needs split)) ≡ true
    go true f g =
        and_both _ _ (every_all (unlinked job s) (useful (keep (misses s) needs) split) (λ t m.
        every_in (unlinked job s) parts.0 (useful_in (keep (misses s) needs) t split m))) f
    go false f g = g

useful_correct : (job : Job) (split : List ℕ) → correct job split ≡ true → correct job (useful job.needs split) ≡ true
useful_correct job split e =
    let p = correct_parts job split e in
    let u = useful job.needs split in
    parts_correct job u (record {
      proper = every_all (proper job) u (λ t m. every_in (proper job) p.proper (useful_in job.needs t split m));
      allowed = every_all (allowed job) u (λ t m. every_in (allowed job) p.allowed (useful_in job.needs t split m));
      unlinked = useful_unlinked job job.needs split p.unlinked;
      met = useful_met job.needs split p.met;
    })

pub planned_few : (job : Job) (split : List ℕ) → Planned job split → length split ≤ length job.needs
planned_few job split p =
    omega (arith, planned_fewest job split (useful job.needs split) p (useful_correct job split p.right), useful_few job.needs split)
