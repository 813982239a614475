-- Searches that find what has the smallest place. Assumes nothing.
use mathlib.Core.Path.{◌≡◌, refl, subst}
use mathlib.Core.Logic.{◌⊎◌, inl, inr}
use Rattle.rules.proofs.Options.{Option, None, Some, option_or, some-injective, none-ne-some}
use Prim.Native.Nat.{ℕ, ◌<◌}

-- nothing is found only if there is none of those meant
abbrev pub NoneMissed : {A : Type 0} → (A → Type 0) → Option A → Type 0
NoneMissed {A} P o = o ≡ None → (y : A) → P y → ⊥

module _ {A : Type 0} (place : A → ℕ) where
  -- what is found is one of those meant, and every other one has a greater place
  abbrev pub Smallest : (A → Type 0) → Option A → Type 0
  Smallest P o = (x : A) → o ≡ Some x → P x × ((y : A) → P y → (x ≡ y) ⊎ (place x < place y))

  -- where nothing is found there is nothing to show
  pub smallest_none : (P : A → Type 0) → Smallest P None
  smallest_none P x e = absurd (none-ne-some x e)

  -- what is found is one of those meant if it is, and the smallest if every other one has a greater place
  pub smallest_some : (P : A → Type 0) (x : A) → P x → ((y : A) → P y → (x ≡ y) ⊎ (place x < place y)) → Smallest P (Some x)
  smallest_some P x h f y e =
      subst (λ (z : A). P z × ((y : A) → P y → (z ≡ y) ⊎ (place z < place y))) (some-injective x y e) (h, f)

  -- one search and then another find the smallest of both kinds if the first kind has the smaller places
  pub smallest_else : (P Q W : A → Type 0) (a b : Option A) → Smallest P a → NoneMissed P a → Smallest Q b
      → ((x y : A) → P x → Q y → place x < place y) → ((x : A) → P x ⊎ Q x → W x) → ((x : A) → W x → P x ⊎ Q x) → Smallest W (option_or a b)
  smallest_else P Q W None b f n g less into from x e = (into x (inr (g x e).0), λ y w. go y (from y w))
    where
      go : (y : A) → P y ⊎ Q y → (x ≡ y) ⊎ (place x < place y)
      go y (inl p) = absurd (n refl y p)
      go y (inr q) = (g x e).1 y q
  smallest_else P Q W (Some a) b f n g less into from x e = (into x (inl (f x e).0), λ y w. go y (from y w))
    where
      go : (y : A) → P y ⊎ Q y → (x ≡ y) ⊎ (place x < place y)
      go y (inl p) = (f x e).1 y p
      go y (inr q) = inr (less x y (f x e).0 q)
