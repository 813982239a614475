-- What the whole search finds, from the least number of sets and the least cost that its steps find. Assumes nothing.
use mathlib.Core.Path.{◌≡◌, refl, sym, ap, subst, ◌∙◌}
use mathlib.Core.List.{List}
use Prim.Native.Nat.{ℕ, ◌+◌, ◌-◌, ◌*◌, ◌%◌, ◌^◌, ◌≤◌, ◌<◌, min}
use native.Mathlib.Decide.{dec_lt}
use native.Mathlib.Omega.{arith}
use lib.ListN.{length}
use lib.Pow.{pow_mono, pow_pos}
use Rattle.rules.specs.Sets.{full}
use Rattle.rules.proofs.Orders.{not_after_trans}
use Rattle.parts.specs.Parts.{Leaned, Tabled}
use Rattle.searching.specs.Serving.{Serves, total, Servable, Least, First}
use Rattle.searching.specs.Prices.{price_of}
use Rattle.searching.specs.Searching.{LeastFrom, Fewest, Cheapest, Taken, Searched}
use Rattle.searching.specs.declared.task.Task.{Task}
use Rattle.searching.proofs.Prices.{PriceOfParts, priced_parts, total_within}
use Rattle.searching.proofs.Serving.{gain_serves, LeanList, lean_serves}

-- ---- all columns and all needs, as the code computes them

pub all_columns_lem : (columns : ℕ) → columns ≤ 16 → full (min columns 16) ≡ full columns
all_columns_lem columns l = ap full (omega arith)

pub all_needs_lem : (needs : ℕ) → needs ≤ 8 → 1 * 2 ^ needs % 65536 - 1 ≡ full needs
all_needs_lem needs l = omega (arith, pow_mono {i = needs} {j = 8} l)

-- the number of the needs has eight bits, and there is one to take away
pub needs_fit : (needs : ℕ) → needs ≤ 8 → (1 ≤ 1 * 2 ^ needs % 65536) × (1 * 2 ^ needs % 65536 - 1 < 256)
needs_fit needs l = (omega (arith, pow_mono {i = needs} {j = 8} l, pow_pos needs), omega (arith, pow_mono {i = needs} {j = 8} l))

-- ---- the least number of sets, and the least cost of so many

module _ (lean price : ℕ → ℕ) (parts : PriceOfParts price) (free unmet most count : ℕ) (few : Fewest lean price most free unmet count) where
  -- no list has fewer sets
  none_fewer : (other : List ℕ) → Serves lean free unmet other → count ≤ length other
  none_fewer other e = go (dec_lt (length other) count)
    where
      go : Dec (length other < count) → count ≤ length other
      go (yes l) =
          absurd (few.none_below (length other) l
          (record { split = other; few = omega arith; cheap = total_within price parts lean other free unmet e; serves = e }))
      go (no l) = omega arith

  found_least : (cost : ℕ) → Cheapest lean price count free unmet cost → Least lean price count free unmet cost
  found_least cost cheap =
      record { servable = cheap.servable; fewest = none_fewer; cheapest = λ other e l. go other e l (dec_lt (total price other) cost) }
    where
      go : (other : List ℕ) → Serves lean free unmet other → length other ≤ count → Dec (total price other < cost) → cost ≤ total price other
      go other e l (yes h) =
          absurd (cheap.none_below (total price other) h (record { split = other; few = l; cheap = omega arith; serves = e }))
      go other e l (no h) = omega arith

-- ---- what is found by the lean table is best by the table of gains too

module _ (gain lean price : ℕ → ℕ) (parts : PriceOfParts price) (free unmet : ℕ) (leaned : Leaned gain lean free) where
  abbrev leaner : (other : List ℕ) → Serves gain free unmet other → LeanList gain lean price free unmet other
  leaner other e = lean_serves gain lean price parts other free unmet leaned e

  gain_least : (count cost : ℕ) → Least lean price count free unmet cost → Least gain price count free unmet cost
  gain_least count cost least =
      record {
        servable =
            record {
              split = v.split;
              few = v.few;
              cheap = v.cheap;
              serves = gain_serves gain lean v.split free unmet leaned v.serves;
            };
        fewest = λ other e. let o = leaner other e in omega (arith, o.many, least.fewest o.list o.serves);
        cheapest = λ other e l.
            let o = leaner other e in
            let many : length o.list ≤ count = omega (arith, o.many) in
            omega (arith, o.dear, least.cheapest o.list o.serves many);
      }
    where
      v : Servable lean price count free unmet cost
      v = least.servable

  gain_first : (count cost : ℕ) (split : List ℕ) → Least lean price count free unmet cost → First lean price count free unmet cost split
      → First gain price count free unmet cost split
  gain_first count cost split least f =
      record {
        serves = gain_serves gain lean split free unmet leaned f.serves;
        as_many = f.as_many;
        as_dear = f.as_dear;
        first = λ other e m d.
            let o = leaner other e in
            let many : length o.list ≡ count = o.many ∙ m in
            let dear : total price o.list ≡ cost = omega (arith, o.dear, least.cheapest o.list o.serves (omega arith)) in
            not_after_trans split o.list other (f.first o.list o.serves many dear) o.first;
      }

  module _ (columns needs most count : ℕ) (is_free : free ≡ full columns) (is-unmet : unmet ≡ full needs)
      (few : Fewest lean price most free unmet count) where
    whole : (old new : List ℕ) → Searched gain price free unmet most count old new
        → Searched gain price (full columns) (full needs) most count old new
    whole old new s =
        subst (λ (f : ℕ). Searched gain price f (full needs) most count old new) is_free
        (subst (λ (u : ℕ). Searched gain price free u most count old new) is-unmet s)

    searched_none : most < count → (old : List ℕ) → Searched gain price (full columns) (full needs) most count old old
    searched_none l old =
        whole old old
        (record {
          found = λ h. absurd (omega arith);
          none = λ h other e.
              let o = leaner other e in
              omega (arith, o.many, none_fewer lean price parts free unmet most count few o.list o.serves);
          stays = λ h. refl;
        })

    searched_found : count ≤ most → (cost : ℕ) → Cheapest lean price count free unmet cost → (old new : List ℕ)
        → Taken lean price (record { extracts = count; free = record { bits = free }; unmet = unmet; cost = cost }) old new
        → Searched gain price (full columns) (full needs) most count old new
    searched_found l cost cheap old new t =
        let least = found_least lean price parts free unmet most count few cost cheap in
        whole old new
        (record {
          found = λ h. record {
            cost = cost;
            split = t.split;
            least = gain_least count cost least;
            first = gain_first count cost t.split least t.first;
            laid = t.laid;
          };
          none = λ h. absurd (omega arith);
          stays = λ h. absurd (omega arith);
        })

-- ---- the whole search, as the code does it

module _ (gain lean possible : ℕ → ℕ) (columns needs free : ℕ) (few_columns : columns ≤ 16) (few_needs : needs ≤ 8)
    (tabled : Tabled gain lean possible (full columns)) (is_free : free ≡ full (min columns 16)) where
  abbrev unmet : ℕ
  unmet = 1 * 2 ^ needs % 65536 - 1

  all_free : free ≡ full columns
  all_free = is_free ∙ all_columns_lem columns few_columns

  all_unmet : unmet ≡ full needs
  all_unmet = all_needs_lem needs few_needs

  leaned : Leaned gain lean free
  leaned = subst (λ (f : ℕ). Leaned gain lean f) (sym all_free) tabled.leaned

  pub best_none : Fewest lean price_of needs free unmet (needs + 1) → (old : List ℕ)
      → Searched gain price_of (full columns) (full needs) needs (needs + 1) old old
  best_none few old =
      searched_none gain lean price_of priced_parts free unmet leaned columns needs needs (needs + 1) all_free all_unmet few (omega arith) old

  module _ (count cost : ℕ) (l : count ≤ needs) (few : Fewest lean price_of needs free unmet count)
      (cheap : Cheapest lean price_of count free unmet cost) (task : Task)
      (is_task : task ≡ record { extracts = count; free = record { bits = free }; unmet = unmet; cost = cost }) where
    pub best_least : LeastFrom lean price_of task
    best_least =
        subst (λ (t : Task). LeastFrom lean price_of t) (sym is_task)
        (found_least lean price_of priced_parts free unmet needs count few cost cheap)

    pub best_found : (old new : List ℕ) → Taken lean price_of task old new
        → Searched gain price_of (full columns) (full needs) needs count old new
    best_found old new taken =
        searched_found gain lean price_of priced_parts free unmet leaned columns needs needs count all_free all_unmet few l cost cheap old new
        (subst (λ (t : Task). Taken lean price_of t old new) is_task taken)
