-- Trying all choices of candidates misses no split and invents none. Assumes nothing.
use mathlib.Core.Path.{◌≡◌, refl, sym, ◌∙◌}
use mathlib.Core.Logic.{⊎_elim}
use mathlib.Core.Bool.{Bool, true, false, cond}
use mathlib.Core.List.{List, [], ◌∷◌, map, Memᴰ}
use Prim.Native.Nat.{ℕ, zero, suc, ◌-◌, ◌≤◌, ◌<◌, ◌^◌}
use native.Mathlib.Decide.{ℕ_discrete}
use native.Mathlib.Omega.{arith}
use Rattle.rules.specs.Lists.{every, keep, up_from}
use Rattle.rules.specs.Jobs.{Job, allowed, unlinked}
use Rattle.rules.specs.Splits.{proper, all_unlinked, correct}
use Rattle.rules.specs.Plans.{rising, choices, splits}
use Rattle.rules.proofs.Lists.{and_parts, every_in, every_all, keep_in, in_keep, in_up_from, up_from_in}
use Rattle.rules.proofs.Splits.{Parts, correct_parts, proper_means}
use Rattle.rules.proofs.Rising.{Rises, none, next, rising_in, rises_above, rises_rest, rises_written, correct_rises, unlinked_rising, correct_rising}

-- ---- candidates that rise

up_from_rises : (i k : ℕ) → Rises (up_from i k)
unfolding up_from
up_from_rises i zero = none
up_from_rises i (suc k) = next (λ t m. (in_up_from (suc i) k m).0) (up_from_rises (suc i) k)

keep_rises : (p : ℕ → Bool) {candidates : List ℕ} → Rises candidates → Rises (keep p candidates)
unfolding keep
keep_rises p none = none
keep_rises p (next {s} {split = candidates} f r) = go (p s) (keep_rises p r)
  where
    go : (b : Bool) → Rises (keep p candidates) → Rises (cond b (s ∷ keep p candidates) (keep p candidates))
    go true h = next (λ t m. f t (in_keep p t candidates m).0) h
    go false h = h

module _ (job : Job) where
  -- ---- none is invented

  -- a choice rises like its candidates, and has only candidates
  pub record Chosen (candidates split : List ℕ) : Type 0 where
    pub rises : Rises split
    pub from : (t : ℕ) → Memᴰ t split → Memᴰ t candidates

  chosen_later : {s : ℕ} {candidates split : List ℕ} → Chosen candidates split → Chosen (s ∷ candidates) split
  chosen_later c = record { rises = c.rises; from = λ t m. mathlib.Core.List.Memᴰ.tail (c.from t m) }

  chosen_taken : {s : ℕ} {candidates : List ℕ} (rest : List ℕ) → ((t : ℕ) → Memᴰ t candidates → s < t)
      → Chosen candidates rest → Chosen (s ∷ candidates) (s ∷ rest)
  chosen_taken {s} {candidates} rest f c = record { rises = next (λ t m. f t (c.from t m)) c.rises; from = origin }
    where
      origin : (t : ℕ) → Memᴰ t (s ∷ rest) → Memᴰ t (s ∷ candidates)
      origin t (mathlib.Core.List.Memᴰ.head e) = mathlib.Core.List.Memᴰ.head e
      origin t (mathlib.Core.List.Memᴰ.tail m) = mathlib.Core.List.Memᴰ.tail (c.from t m)

  pub choices_chosen : {candidates : List ℕ} → Rises candidates → (chosen split : List ℕ)
      → Memᴰ split (choices job candidates chosen) → Chosen candidates split
  unfolding choices
  choices_chosen none chosen split m = rw (mathlib.Core.List.Memᴰ.eq_of_singleton m) (record { rises = none; from = λ t i. i })
  choices_chosen (next {s} {split = candidates} f r) chosen split m =
      ⊎_elim (λ i. chosen_later (choices_chosen r chosen split i))
      (λ i. taken (every (λ c. unlinked job c s) chosen) (choices_chosen r (s ∷ chosen)) i)
      (mathlib.Core.List.Memᴰ.append_cases (choices job candidates chosen) m)
    where
      taken : (b : Bool) → ((rest : List ℕ) → Memᴰ rest (choices job candidates (s ∷ chosen)) → Chosen candidates rest)
          → Memᴰ split (cond b (map (λ rest. s ∷ rest) (choices job candidates (s ∷ chosen))) []) → Chosen (s ∷ candidates) split
      taken true g i =
          let o = mathlib.Core.List.Memᴰ.of_map (λ (rest : List ℕ). s ∷ rest) (choices job candidates (s ∷ chosen)) i in
          rw o.2 at (chosen_taken {s = s} o.0 f (g o.0 o.1))
      taken false g i = elim i [ ]

  -- ---- none is missed

  -- a later candidate is another one
  past : {s t : ℕ} {candidates : List ℕ} → Memᴰ t (s ∷ candidates) → s < t → Memᴰ t candidates
  past (mathlib.Core.List.Memᴰ.head e) l = absurd (omega arith)
  past (mathlib.Core.List.Memᴰ.tail m) l = m

  -- what can be chosen from the candidates beside the sets chosen before
  pub record Choosable (candidates chosen split : List ℕ) : Type 0 where
    pub own : Chosen candidates split
    pub apart : all_unlinked job split ≡ true
    pub free : (k t : ℕ) → Memᴰ k chosen → Memᴰ t split → unlinked job k t ≡ true

  pub choosable_choices : {candidates : List ℕ} → Rises candidates → (chosen split : List ℕ) → Choosable candidates chosen split
      → Memᴰ split (choices job candidates chosen)
  unfolding choices all_unlinked
  choosable_choices none chosen [] c = mathlib.Core.List.Memᴰ.head refl
  choosable_choices none chosen (t ∷ split) c = absurd (mathlib.Core.List.Memᴰ.not-nil (c.own.from t (mathlib.Core.List.Memᴰ.head refl)))
  choosable_choices (next {s} {split = candidates} f r) chosen [] c =
      mathlib.Core.List.Memᴰ.append_left _ (choosable_choices r chosen [] (record {
        own = record { rises = none; from = λ t m. absurd (mathlib.Core.List.Memᴰ.not-nil m) };
        apart = c.apart;
        free = c.free;
      }))
  choosable_choices (next {s} {split = candidates} f r) chosen (t ∷ split) c =
      go (ℕ_discrete t s) (choosable_choices r chosen (t ∷ split)) (choosable_choices r (s ∷ chosen) split)
    where
      links : (every (unlinked job t) split ≡ true) × (all_unlinked job split ≡ true)
      links = and_parts (every (unlinked job t) split) (all_unlinked job split) c.apart

      above : (k : ℕ) → Memᴰ k split → t < k
      above = rises_above c.own.rises

      -- s is not taken: every number of the split is past it
      skipped : s < t → (k : ℕ) → Memᴰ k (t ∷ split) → Memᴰ k candidates
      skipped l k (mathlib.Core.List.Memᴰ.head e) = past (c.own.from k (mathlib.Core.List.Memᴰ.head e)) (omega arith)
      skipped l k (mathlib.Core.List.Memᴰ.tail m) = past (c.own.from k (mathlib.Core.List.Memᴰ.tail m)) (omega (arith, above k m))

      -- s is taken: the rest of the split is beside it too
      beside : t ≡ s → (k x : ℕ) → Memᴰ k (s ∷ chosen) → Memᴰ x split → unlinked job k x ≡ true
      beside e k x (mathlib.Core.List.Memᴰ.head q) m = rw (q ∙ sym e) (every_in (unlinked job t) links.0 m)
      beside e k x (mathlib.Core.List.Memᴰ.tail i) m = c.free k x i (mathlib.Core.List.Memᴰ.tail m)

      go : Dec (t ≡ s) → (Choosable candidates chosen (t ∷ split) → Memᴰ (t ∷ split) (choices job candidates chosen))
          → (Choosable candidates (s ∷ chosen) split → Memᴰ split (choices job candidates (s ∷ chosen)))
          → Memᴰ (t ∷ split) (choices job (s ∷ candidates) chosen)
      go (yes e) skip take =
          let fits : every (λ k. unlinked job k s) chosen ≡ true =
          every_all (λ k. unlinked job k s) chosen (λ k i. c.free k s i (mathlib.Core.List.Memᴰ.head (sym e))) in
          let later : (k : ℕ) → Memᴰ k split → Memᴰ k candidates =
          λ k m. past (c.own.from k (mathlib.Core.List.Memᴰ.tail m)) (omega (arith, above k m)) in
          let rest : Memᴰ split (choices job candidates (s ∷ chosen)) =
          take (record { own = record { rises = rises_rest c.own.rises; from = later }; apart = links.1; free = beside e }) in
          rw (fits, e) (mathlib.Core.List.Memᴰ.append_right (choices job candidates chosen) (mathlib.Core.List.Memᴰ.map (λ (rest : List ℕ). s ∷ rest) rest))
      go (no n) skip take =
          mathlib.Core.List.Memᴰ.append_left _ (skip (record {
            own = record { rises = c.own.rises; from = skipped (before (c.own.from t (mathlib.Core.List.Memᴰ.head refl))) };
            apart = c.apart;
            free = c.free;
          }))
        where
          before : Memᴰ t (s ∷ candidates) → s < t
          before (mathlib.Core.List.Memᴰ.head e) = absurd (n e)
          before (mathlib.Core.List.Memᴰ.tail m) = f t m

  -- ---- the correct splits are those tried

  pub split_correct : (split : List ℕ) → Memᴰ split (splits job) → (correct job split ≡ true) × (rising split ≡ split)
  unfolding splits
  split_correct split m =
      let k = in_keep (correct job) split _ m in
      (k.1, rises_written (choices_chosen (keep_rises (allowed job) (up_from_rises 1 (2 ^ job.columns - 1))) [] split k.0).rises)

  pub correct_split : (split : List ℕ) → job.columns ≤ 16 → correct job split ≡ true → Memᴰ (rising split) (splits job)
  unfolding splits
  correct_split split h e =
      let p = correct_parts job split e in
      keep_in (correct job)
      (choosable_choices (keep_rises (allowed job) (up_from_rises 1 (2 ^ job.columns - 1))) [] (rising split) (record {
        own = record { rises = correct_rises job split h p.proper p.unlinked; from = λ t m. candidate t (rising_in t split m) p };
        apart = unlinked_rising job split ∙ p.unlinked;
        free = λ k t i m. absurd (mathlib.Core.List.Memᴰ.not-nil i);
      }))
      (correct_rising job split ∙ e)
    where
      candidate : (t : ℕ) → Memᴰ t split → Parts job split → Memᴰ t (keep (allowed job) (up_from 1 (2 ^ job.columns - 1)))
      candidate t m p =
          let q = proper_means job t (every_in (proper job) p.proper m) in
          keep_in (allowed job) (up_from_in 1 (2 ^ job.columns - 1) t (omega arith) (omega arith)) (every_in (allowed job) p.allowed m)
