-- The test of a correct split and the sentence it stands for agree; the order of the extracts is no matter. Assumes nothing.
use mathlib.Core.Path.{◌≡◌, refl, sym, ap, ◌∙◌}
use mathlib.Core.Bool.{true, false, not, ◌&&◌}
use mathlib.Core.List.{List, [], ◌∷◌, Memᴰ}
use Prim.Native.Nat.{ℕ, zero, suc, ◌<◌, ◌^◌}
use native.Mathlib.Omega.{arith}
use lib.Dec.{eqb, ltb}
use lib.ListN.{length, get_or}
use borrow.Author.Tests.{eqb-false, ne_eqb, ltb-true, lt-ltb, not-true}
use Rattle.rules.specs.Lists.{every}
use Rattle.rules.specs.Needs.{meets}
use Rattle.rules.specs.Jobs.{Job, breaks, allowed, unlinked}
use Rattle.rules.specs.Splits.{Correct, proper, all_unlinked, met, correct}
use Rattle.rules.proofs.Lists.{and_parts, and_both, every_in, every_all, any_one, any_in, get_d_in, in_get_d}
use Rattle.rules.proofs.Jobs.{safe_means, means_safe, allowed_safe}

module _ (job : Job) where
  -- ---- each part of the sentence

  pub proper_means : (s : ℕ) → proper job s ≡ true → (0 < s) × (s < 2 ^ job.columns)
  unfolding proper
  proper_means s e =
      let parts = and_parts (not (eqb s 0)) (ltb s (2 ^ job.columns)) e in
      let some : s ≡ 0 → ⊥ = eqb-false s 0 (not-true (eqb s 0) parts.0) in
      (omega arith, ltb-true s (2 ^ job.columns) parts.1)

  pub means_proper : (s : ℕ) → 0 < s → s < 2 ^ job.columns → proper job s ≡ true
  unfolding proper
  means_proper s p l = and_both (not (eqb s 0)) (ltb s (2 ^ job.columns)) (ap not (ne_eqb s 0 (λ e. omega arith))) (lt-ltb s (2 ^ job.columns) l)

  pub allowed_means : (s f : ℕ) → allowed job s ≡ true → Memᴰ f job.forbidden → breaks job s f ≡ false
  allowed_means s f e m = safe_means job s f (sym (allowed_safe job s) ∙ e) m

  pub means_allowed : (s : ℕ) → ((f : ℕ) → Memᴰ f job.forbidden → breaks job s f ≡ false) → allowed job s ≡ true
  means_allowed s g = allowed_safe job s ∙ means_safe job s g

  unlinked_places : (split : List ℕ) → all_unlinked job split ≡ true
      → (i j : ℕ) → i < j → j < length split → unlinked job (get_or split i 0) (get_or split j 0) ≡ true
  unfolding all_unlinked
  unlinked_places [] e i j l h = absurd (omega arith)
  unlinked_places (s ∷ split) e i zero l h = absurd (omega arith)
  unlinked_places (s ∷ split) e zero (suc j) l h =
      every_in (unlinked job s) (and_parts (every (unlinked job s) split) (all_unlinked job split) e).0 (get_d_in split j 0 (omega arith))
  unlinked_places (s ∷ split) e (suc i) (suc j) l h =
      unlinked_places split (and_parts (every (unlinked job s) split) (all_unlinked job split) e).1 i j (omega arith) (omega arith)

  places_unlinked : (split : List ℕ)
      → ((i j : ℕ) → i < j → j < length split → unlinked job (get_or split i 0) (get_or split j 0) ≡ true) → all_unlinked job split ≡ true
  unfolding all_unlinked
  places_unlinked [] f = refl
  places_unlinked (s ∷ split) f =
      and_both (every (unlinked job s) split) (all_unlinked job split)
      (every_all (unlinked job s) split (λ t m. let r = in_get_d 0 m in rw r.2 at (f 0 (suc r.0) (omega arith) (omega arith))))
      (places_unlinked split (λ i j l h. f (suc i) (suc j) (omega arith) (omega arith)))

  -- ---- the whole sentence

  -- the four parts of the test
  pub record Parts (split : List ℕ) : Type 0 where
    pub proper : every (proper job) split ≡ true
    pub allowed : every (allowed job) split ≡ true
    pub unlinked : all_unlinked job split ≡ true
    pub met : every (met split) job.needs ≡ true

  pub correct_parts : (split : List ℕ) → correct job split ≡ true → Parts split
  unfolding correct
  correct_parts split e =
      let a = and_parts (every (proper job) split) (every (allowed job) split && (all_unlinked job split && every (met split) job.needs)) e in
      let b = and_parts (every (allowed job) split) (all_unlinked job split && every (met split) job.needs) a.1 in
      let c = and_parts (all_unlinked job split) (every (met split) job.needs) b.1 in
      record { proper = a.0; allowed = b.0; unlinked = c.0; met = c.1 }

  pub parts_correct : (split : List ℕ) → Parts split → correct job split ≡ true
  unfolding correct
  parts_correct split p = and_both _ _ p.proper (and_both _ _ p.allowed (and_both _ _ p.unlinked p.met))

  pub correct_means : (split : List ℕ) → correct job split ≡ true → Correct job split
  unfolding met
  correct_means split e =
      let p = correct_parts split e in
      record {
        proper = λ s m. proper_means s (every_in (proper job) p.proper m);
        confidential = λ s f m n. allowed_means s f (every_in (allowed job) p.allowed m) n;
        visible = λ v m. any_one (meets v) split (every_in (met split) p.met m);
        unlinkable = unlinked_places split p.unlinked;
      }

  pub means_correct : (split : List ℕ) → Correct job split → correct job split ≡ true
  unfolding met
  means_correct split c =
      parts_correct split (record {
        proper = every_all (proper job) split (λ s m. means_proper s (c.proper s m).0 (c.proper s m).1);
        allowed = every_all (allowed job) split (λ s m. means_allowed s (λ f n. c.confidential s f m n));
        unlinked = places_unlinked split c.unlinkable;
        met = every_all (met split) job.needs (λ v m. any_in (meets v) (c.visible v m).1 (c.visible v m).2);
      })
