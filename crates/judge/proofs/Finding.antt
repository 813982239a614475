-- What the library's chains of a search tell in the words of the rules. Assumes nothing.
use mathlib.Core.Path.{◌≡◌, sym}
use mathlib.Core.Bool.{Bool, true, false}
use mathlib.Core.List.{List}
use Prim.Native.Nat.{ℕ, ◌<◌}
use native.Mathlib.Omega.{arith}
use lib.ListN.{length}
use Rattle.std.specs.Bool.{MatchBool}
use Rattle.std.specs.Option.{MatchOption}
use Rattle.std.specs.List.{AllWithin, HoldsAt}
use Rattle.rules.specs.Options.{Option, None, Some}
use Rattle.rules.specs.Lists.{first_where}
use Rattle.rules.specs.Needs.{Need, meets}
use Rattle.rules.specs.Splits.{met}
use Rattle.rules.proofs.Searches.{first_found, nothing_found}
use Rattle.rules.proofs.FirstFaults.{met_found, met_nothing}

-- the place that `position` answers
abbrev pub IsFirst : {A : Type 0} → (A → Bool) → List A → Option ℕ → Type 0
IsFirst p xs found =
    MatchOption found (AllWithin (λ x. p x ≡ false) xs 0 (length xs))
    (λ i. (i < length xs) × HoldsAt (λ x. p x ≡ true) xs i × AllWithin (λ x. p x ≡ false) xs 0 i)

pub position_where : {A : Type 0} (d : A) (p : A → Bool) (xs : List A) (found : Option ℕ) → IsFirst p xs found → found ≡ first_where p xs
position_where d p xs None none = sym (nothing_found p d xs (λ k h. none k d (omega arith) h))
position_where d p xs (Some i) (within, here, before) = sym (first_found p d xs i within (λ k h. before k d (omega arith) h) (here d))

-- the answer of `any`
pub any_met : (v : Need) (split : List ℕ) (found : Bool)
    → MatchBool found ((k : ℕ) × (k < length split) × HoldsAt (λ s. meets v s ≡ true) split k) (AllWithin (λ s. meets v s ≡ false) split 0 (length split))
    → found ≡ met split v
any_met v split true (k, within, here) = sym (met_found v split k within (here 0))
any_met v split false none = sym (met_nothing v split (λ k h. none k 0 (omega arith) h))
