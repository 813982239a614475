-- What the search asks of a price, that what a set costs has it, and what follows from it. Assumes nothing.
use mathlib.Core.Path.{◌≡◌, ap}
use mathlib.Core.List.{List, [], ◌∷◌}
use Prim.Native.Nat.{ℕ, ◌+◌, ◌≤◌}
use native.Mathlib.Omega.{arith}
use lib.Bits.{bit_and}
use Rattle.rules.specs.Sets.{size, without}
use Rattle.rules.proofs.Sets.{contains_and}
use Rattle.rules.proofs.SetSizes.{size_parts}
use Rattle.parts.specs.Parts.{Inside}
use Rattle.searching.specs.Prices.{price_of}
use Rattle.searching.specs.Serving.{Serves, total}

-- a set costs, together with what is left of the free columns without it, no more than these; a column may cost nothing
pub record PriceOfParts (price : ℕ → ℕ) : Type 0 where
  pub no_dearer : (free s : ℕ) → Inside free s → price s + price (without free s) ≤ price free

pub priced_parts : PriceOfParts price_of
unfolding price_of
priced_parts =
    record {
      no_dearer = λ free s inside.
          let own : size (bit_and free s) ≡ size s = ap size (contains_and free s inside.small inside.within) in
          omega (arith, own, size_parts free s);
    }

-- ---- what follows

module _ (price : ℕ → ℕ) (parts : PriceOfParts price) where
  pub part_within : (s t : ℕ) → Inside s t → price t ≤ price s
  part_within s t inside = omega (arith, parts.no_dearer s t inside)

  -- sets that are taken one after the other from the free columns cost together no more than these
  pub total_within : (gain : ℕ → ℕ) (split : List ℕ) (free unmet : ℕ) → Serves gain free unmet split → total price split ≤ price free
  unfolding Serves total
  total_within gain [] free unmet e = omega arith
  total_within gain (s ∷ split) free unmet e =
      omega (arith, parts.no_dearer free s e.0, total_within gain split (without free s) (without unmet (gain s)) e.1)
