-- When one job asks no more than another. Demand 3 speaks of "two jobs over the same columns, where every forbidden set of the second contains
-- one of the first and every need of the second is met by all sets that meet some one need of the first".
use Rattle.std.specs.Prelude.{◌≡◌, true, ℕ, ◌<◌, ◌^◌}
use mathlib.Core.List.{Memᴰ}
use Rattle.rules.specs.Sets.{contains}
use Rattle.rules.specs.Needs.{Need, meets}
use Rattle.rules.specs.Jobs.{Job}

pub record AsksNoMore (first second : Job) : Type 0 where
  pub columns : second.columns ≡ first.columns
  pub forbidden : (g : ℕ) → Memᴰ g second.forbidden → (f : ℕ) × Memᴰ f first.forbidden × (contains g f ≡ true)
  pub needs : (w : Need) → Memᴰ w second.needs
      → (v : Need) × Memᴰ v first.needs × ((s : ℕ) → s < 2 ^ first.columns → meets v s ≡ true → meets w s ≡ true)
