-- What is searched for: sets of columns, taken one after the other, that together meet all needs. Which needs a set meets, as a number with need
-- k as bit k, is said by any `gain`, and what it costs by any `price`.
use Rattle.std.specs.Prelude.{◌≡◌, Bool, true, false, List, [], ◌∷◌, ℕ, ◌+◌, ◌-◌, ◌≤◌, length}
use Rattle.rules.specs.Sets.{apart, without}
use Rattle.rules.specs.Plans.{not_after}
use Rattle.parts.specs.Parts.{Inside}

-- each set can be taken from what those before it leave free, and none of the unmet needs is left over
unfoldable pub Serves : (ℕ → ℕ) → ℕ → ℕ → List ℕ → Type 0
Serves gain free unmet [] = unmet ≡ 0
Serves gain free unmet (s ∷ split) = Inside free s × Serves gain (without free s) (without unmet (gain s)) split

-- what the sets cost together
unfoldable pub total : (ℕ → ℕ) → List ℕ → ℕ
total price [] = 0
total price (s ∷ split) = price s + total price split

-- at most so many sets, at most at this cost, meet the unmet needs
pub record Servable (gain price : ℕ → ℕ) (most free unmet cost : ℕ) : Type 0 where
  pub split : List ℕ
  pub few : length split ≤ most
  pub cheap : total price split ≤ cost
  pub serves : Serves gain free unmet split

-- neither fewer sets nor, with as many, a lower cost will do
pub record Least (gain price : ℕ → ℕ) (many free unmet cost : ℕ) : Type 0 where
  pub servable : Servable gain price many free unmet cost
  pub fewest : (other : List ℕ) → Serves gain free unmet other → many ≤ length other
  pub cheapest : (other : List ℕ) → Serves gain free unmet other → length other ≤ many → cost ≤ total price other

-- of the lists with so many sets and this cost the one with the smallest numbers from the left
pub record First (gain price : ℕ → ℕ) (many free unmet cost : ℕ) (split : List ℕ) : Type 0 where
  pub serves : Serves gain free unmet split
  pub as_many : length split ≡ many
  pub as_dear : total price split ≡ cost
  pub first : (other : List ℕ) → Serves gain free unmet other → length other ≡ many → total price other ≡ cost → not_after split other ≡ true

-- a set that can be taken, meets an unmet need, and leaves what so many further sets can serve
pub record Completes (gain price : ℕ → ℕ) (further free unmet cost s : ℕ) : Type 0 where
  pub inside : Inside free s
  pub useful : apart (gain s) unmet ≡ false
  pub payable : price s ≤ cost
  pub rest : Servable gain price further (without free s) (without unmet (gain s)) (cost - price s)

-- the test holds exactly if the statement does
pub record Decides (test : Bool) (Statement : Type 0) : Type 0 where
  pub sound : test ≡ true → Statement
  pub complete : Statement → test ≡ true
