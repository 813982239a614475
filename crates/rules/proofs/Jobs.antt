-- Laws of the words that are asked of a job. What stands above cites these, and never the definitions' text. Assumes nothing.
use mathlib.Core.Path.{◌≡◌, refl, sym, ap, ◌∙◌}
use mathlib.Core.Bool.{true, false, not}
use mathlib.Core.List.{Memᴰ}
use Prim.Native.Nat.{ℕ}
use borrow.Author.Tests.{not-true}
use Rattle.rules.specs.Lists.{any_of}
use Rattle.rules.specs.Sets.{contains, apart, size}
use Rattle.rules.specs.Jobs.{Job, breaks, safe, allowed, unlinked, price}
use Rattle.rules.proofs.Lists.{not_any_in, not_any_all}
use Rattle.rules.proofs.Sets.{apart_sym}

module _ (job : Job) where
  -- ---- forbidden sets

  -- today a forbidden set is broken by the sets that contain it
  pub breaks_contains : (s f : ℕ) → breaks job s f ≡ contains s f
  unfolding breaks
  breaks_contains s f = refl

  pub safe_contains : (s : ℕ) → safe job s ≡ not (any_of (contains s) job.forbidden)
  unfolding safe breaks
  safe_contains s = refl

  pub safe_means : (s f : ℕ) → safe job s ≡ true → Memᴰ f job.forbidden → breaks job s f ≡ false
  unfolding safe
  safe_means s f e m = not_any_in (breaks job s) (not-true (any_of (breaks job s) job.forbidden) e) m

  pub means_safe : (s : ℕ) → ((f : ℕ) → Memᴰ f job.forbidden → breaks job s f ≡ false) → safe job s ≡ true
  unfolding safe
  means_safe s g = ap not (not_any_all (breaks job s) job.forbidden g)

  -- ---- extracts

  -- today nothing else is asked of an extract
  pub allowed_safe : (s : ℕ) → allowed job s ≡ safe job s
  unfolding allowed
  allowed_safe s = refl

  -- ---- two extracts

  -- today two sets are linked by their own columns alone
  pub unlinked_apart : (s t : ℕ) → unlinked job s t ≡ apart s t
  unfolding unlinked
  unlinked_apart s t = refl

  pub unlinked_sym : (s t : ℕ) → unlinked job s t ≡ unlinked job t s
  unlinked_sym s t = unlinked_apart s t ∙ apart_sym s t ∙ sym (unlinked_apart t s)

  pub unlinked_means : (s t : ℕ) → unlinked job s t ≡ true → apart s t ≡ true
  unlinked_means s t e = sym (unlinked_apart s t) ∙ e

  -- ---- what an extract costs

  -- today every column costs the same
  pub price_size : (s : ℕ) → price job s ≡ size s
  unfolding price
  price_size s = refl
