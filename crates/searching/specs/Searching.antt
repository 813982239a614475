-- What the steps of the search ask and leave behind, for any gain and any price.
use Rattle.std.specs.Prelude.{◌≡◌, ◌⊎◌, true, List, ℕ, ◌+◌, ◌-◌, ◌^◌, ◌≤◌, ◌<◌, length}
use Rattle.rules.specs.Lists.{written}
use Rattle.rules.specs.Sets.{has, without}
use Rattle.searching.specs.Serving.{Serves, Servable, Least, First, Completes}
use Rattle.searching.specs.declared.task.Task.{Task}

-- the task can be done
abbrev pub ServableFrom : (gain price : ℕ → ℕ) → Task → Type 0
ServableFrom gain price task = Servable gain price task.extracts task.free.bits task.unmet task.cost

-- what is left to do when a set is taken that meets these needs
abbrev pub left_after : (price : ℕ → ℕ) → Task → ℕ → ℕ → Task
left_after price task s gained =
    record {
      extracts = task.extracts - 1;
      free = record { bits = without task.free.bits s };
      unmet = without task.unmet gained;
      cost = task.cost - price s;
    }

-- the needs that a set must meet to be tried: all of them if it is the last, else any one
abbrev pub Wanted : ℕ → ℕ → ℕ → Type 0
Wanted extracts unmet wanted = ((extracts ≡ 1) × (wanted ≡ unmet)) ⊎ ((k : ℕ) × (k < 8) × (has k unmet ≡ true) × (wanted ≡ 2 ^ k))

-- the one found so far, or the further need if that is unmet; 8 is none
pub record Rarer (unmet found need rarer : ℕ) : Type 0 where
  pub either : (rarer ≡ found) ⊎ ((rarer ≡ need) × (has need unmet ≡ true))
  pub some : has need unmet ≡ true → rarer < 8

-- the set is the next of a best list
abbrev pub Next : (gain price : ℕ → ℕ) → Task → ℕ → Type 0
Next gain price task s = Completes gain price (task.extracts - 1) task.free.bits task.unmet task.cost s

-- a best list goes on with a set from a number on
pub record SomeNext (gain price : ℕ → ℕ) (task : Task) (from : ℕ) : Type 0 where
  pub left : 0 < task.extracts
  pub set : ℕ
  pub later : from ≤ set
  pub next : Next gain price task set

-- the first such set from a number on
pub record FirstNext (gain price : ℕ → ℕ) (task : Task) (from s : ℕ) : Type 0 where
  pub next : Next gain price task s
  pub later : from ≤ s
  pub none_before : (t : ℕ) → from ≤ t → t < s → Next gain price task t → ⊥

-- nothing less will do
abbrev pub LeastFrom : (gain price : ℕ → ℕ) → Task → Type 0
LeastFrom gain price task = Least gain price task.extracts task.free.bits task.unmet task.cost

-- the first of the lists that do
abbrev pub FirstFrom : (gain price : ℕ → ℕ) → Task → List ℕ → Type 0
FirstFrom gain price task split = First gain price task.extracts task.free.bits task.unmet task.cost split

-- the best list has been written over the first places
pub record Taken (gain price : ℕ → ℕ) (task : Task) (old new : List ℕ) : Type 0 where
  pub split : List ℕ
  pub first : FirstFrom gain price task split
  pub laid : new ≡ written split old

-- the least number of sets up to a most that serve, or one more than the most
pub record Fewest (gain price : ℕ → ℕ) (most free unmet count : ℕ) : Type 0 where
  pub near : count ≤ most + 1
  pub servable : count ≤ most → Servable gain price count free unmet (price free)
  pub none_below : (fewer : ℕ) → fewer < count → Servable gain price fewer free unmet (price free) → ⊥

-- the least cost at which so many sets serve
pub record Cheapest (gain price : ℕ → ℕ) (count free unmet cost : ℕ) : Type 0 where
  pub servable : Servable gain price count free unmet cost
  pub none_below : (less : ℕ) → less < cost → Servable gain price count free unmet less → ⊥

-- the best list of all that serve, written over the first places
pub record Found (gain price : ℕ → ℕ) (free unmet count : ℕ) (old new : List ℕ) : Type 0 where
  pub cost : ℕ
  pub split : List ℕ
  pub least : Least gain price count free unmet cost
  pub first : First gain price count free unmet cost split
  pub laid : new ≡ written split old

-- what the whole search leaves: the best list, or one more than the most sets where no list of so few serves
pub record Searched (gain price : ℕ → ℕ) (free unmet most count : ℕ) (old new : List ℕ) : Type 0 where
  pub found : count ≤ most → Found gain price free unmet count old new
  pub none : most < count → (other : List ℕ) → Serves gain free unmet other → most < length other
  pub stays : most < count → new ≡ old
