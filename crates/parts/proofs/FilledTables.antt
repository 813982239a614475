-- Both tables filled up to a set, by one set more, and for all sets of the columns. Assumes nothing.
use mathlib.Core.Path.{◌≡◌}
use mathlib.Core.Bool.{true}
use mathlib.Core.List.{List}
use Prim.Native.Nat.{ℕ, ◌+◌, ◌*◌, ◌%◌, ◌^◌, ◌≤◌, ◌<◌}
use native.Mathlib.Nat.{lt_of_le_of_lt}
use native.Mathlib.Omega.{arith}
use lib.ListN.{length, set}
use lib.Seq.{get_or-set_same, get_or-set_other}
use lib.Pow.{pow_mono, pow_pos}
use borrow.Author.Count.{below_more}
use Rattle.rules.specs.Sets.{contains, full}
use Rattle.rules.proofs.SetBits.{full_within}
use Rattle.rules.proofs.Sets.{contains_trans, contains_le}
use Rattle.parts.specs.Parts.{Inside, in_table, Gathers, Leans, Tabled}
use Rattle.parts.proofs.GatheredParts.{gathers_bound}
use Rattle.parts.proofs.LeanSets.{leans_part, leans_nothing, part_with_all}

-- the sets below a number have their places in both tables
pub record Filled (gain lean possible : ℕ → ℕ) (below : ℕ) : Type 0 where
  pub leans : (s : ℕ) → s < below → Leans gain s (lean s)
  pub bound : (around s : ℕ) → around < below → Inside around s → contains (possible around) (gain s) ≡ true

pub filled_none : (gain lean possible : ℕ → ℕ) → Filled gain lean possible 0
filled_none gain lean possible = record { leans = λ s l. absurd (omega arith); bound = λ around s l inside. absurd (omega arith) }

-- a set more has its places in both tables
pub filled_more : (gain : ℕ → ℕ) (lean possible : List ℕ) (s gained all : ℕ) → s < 2 ^ 16 → s < length lean → s < length possible
    → Filled gain (in_table lean) (in_table possible) s → Leans gain s gained → Gathers gain (in_table possible) 16 s all
    → Filled gain (in_table (set lean s gained)) (in_table (set possible s all)) (s + 1)
filled_more gain lean possible s gained all b in_lean in_possible filled leaner gathered =
    record { leans = leans; bound = λ around t m inside. bound around m t inside }
  where
    leans : (t : ℕ) → t < s + 1 → Leans gain t (in_table (set lean s gained) t)
    leans =
        below_more (λ t. Leans gain t (in_table (set lean s gained) t)) s
        (λ t m. rw (get_or-set_other lean s t gained 0 (λ e. omega arith)) (filled.leans t m))
        (rw (get_or-set_same lean s gained 0 in_lean) leaner)

    bound : (around : ℕ) → around < s + 1 → (t : ℕ) → Inside around t → contains (in_table (set possible s all) around) (gain t) ≡ true
    bound =
        below_more (λ around. (t : ℕ) → Inside around t → contains (in_table (set possible s all) around) (gain t) ≡ true) s
        (λ around m t inside. rw (get_or-set_other possible s around all 0 (λ e. omega arith)) (filled.bound around t m inside))
        (rw (get_or-set_same possible s all 0 in_possible) (gathers_bound gain (in_table possible) s 16 all (omega arith) b gathered filled.bound))

-- how many sets there are of so many columns, as the code computes it
pub all_below : (columns : ℕ) → columns ≤ 16 → 1 * 2 ^ columns % 18446744073709551616 ≡ 2 ^ columns
all_below columns l = omega (arith, pow_mono {i = columns} {j = 16} l)

-- with all sets of the columns filled, both tables are right within the columns
pub filled_all : (gain lean possible : ℕ → ℕ) (columns : ℕ) → gain 0 ≡ 0 → Filled gain lean possible (2 ^ columns)
    → Tabled gain lean possible (full columns)
filled_all gain lean possible columns z filled =
    record {
      leaned =
          record {
            no_more = no_more;
            as_much = λ s inside. part_with_all gain lean (2 ^ columns) s filled.leans (below s inside) inside.small;
          };
      bounded =
          record {
            nothing = leans_nothing gain 0 (lean 0) z (filled.leans 0 (pow_pos columns));
            bound = bound;
          };
    }
  where
    below : (s : ℕ) → Inside (full columns) s → s < 2 ^ columns
    below s inside = lt_of_le_of_lt (contains_le (full columns) s inside.small inside.within) (full_within columns)

    no_more : (s : ℕ) → Inside (full columns) s → contains (gain s) (lean s) ≡ true
    no_more s inside = leans_part gain s (lean s) (filled.leans s (below s inside))

    bound : (around s : ℕ) → Inside (full columns) around → Inside around s → contains (possible around) (lean s) ≡ true
    bound around s outer inside =
        let within_all : Inside (full columns) s =
        record { small = inside.small; within = contains_trans (full columns) around s outer.within inside.within } in
        contains_trans (possible around) (gain s) (lean s) (filled.bound around s (below around outer) inside) (no_more s within_all)
