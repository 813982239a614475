-- What two options that are equal say of their values.
use Rattle.std.specs.Prelude.{◌≡◌, ◌↔◌}
use Rattle.std.proofs.Common.{refl, sym, ap, ◌∙◌}
use Rattle.std.proofs.lemmas.Option.{none-some, same_Some}
pub use Rattle.rules.specs.Options.{Option, None, Some, unwrap_or, option_map, option_or}
unfoldable pub use Rattle.rules.specs.Options.{bind, Option-elim}

module _ {A : Type 0} where
  pub some-injective : (a b : A) → Some a ≡ Some b → a ≡ b
  some-injective a b e = same_Some a b e

  pub none-ne-some : (a : A) → None ≡ Some a → ⊥
  none-ne-some a e = none-some a e

  pub some-ne-none : (a : A) → Some a ≡ None → ⊥
  some-ne-none a e = none-some a (sym e)

module _ {A B : Type 0} where
  pub map-eq-none_iff : (f : A → B) (x : Option A) → (option_map f x ≡ None) ↔ (x ≡ None)
  map-eq-none_iff f None = (λ _. refl, λ _. refl)
  map-eq-none_iff f (Some a) = (λ e. absurd (some-ne-none (f a) e), λ e. absurd (some-ne-none a e))

  unfoldable pub bind-eq-some_iff : (o : Option A) (g : A → Option B) {x : B} → (bind o g ≡ Some x) ↔ ((y : A) × (o ≡ Some y) × (g y ≡ Some x))
  unfolding bind
  bind-eq-some_iff None g {x} = (λ e. absurd (none-ne-some x e), λ t. absurd (none-ne-some t.0 t.1))
  bind-eq-some_iff (Some a) g {x} = (λ e. (a, refl, e), λ t. ap (λ (o : Option A). bind o g) t.1 ∙ t.2)
