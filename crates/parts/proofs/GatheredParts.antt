-- What is gathered from the parts of a set, column by column, and that it holds what any part gains. Assumes nothing.
use mathlib.Core.Path.{◌≡◌}
use mathlib.Core.Logic.{⊎_elim}
use mathlib.Core.Bool.{true, false}
use Prim.Native.Nat.{ℕ, ◌+◌, ◌^◌, ◌≤◌, ◌<◌}
use native.Mathlib.Omega.{arith}
use lib.Bits.{bit_or}
use borrow.Author.Count.{below_more}
use Rattle.rules.specs.Sets.{has, contains, without}
use Rattle.rules.proofs.SetBits.{below_most}
use Rattle.rules.proofs.Sets.{contains_refl, contains_trans}
use Rattle.rules.proofs.SetColumns.{contains_or_left, contains_or_right, without_less, contains_rest, same_or_lacks}
use Rattle.parts.specs.Parts.{Inside, Gathers}

module _ (gain possible : ℕ → ℕ) (s : ℕ) where
  pub gathers_none : Gathers gain possible 0 s (gain s)
  gathers_none = record { own = contains_refl (gain s); parts = λ i l. absurd (omega arith) }

  pub gathers_more : (columns all : ℕ) → Gathers gain possible columns s all
      → Gathers gain possible (columns + 1) s (bit_or all (possible (without s (2 ^ columns))))
  gathers_more columns all g =
      let next = possible (without s (2 ^ columns)) in
      record {
        own = contains_or_left all next (gain s) g.own;
        parts =
            below_more (λ i. contains (bit_or all next) (possible (without s (2 ^ i))) ≡ true) columns
            (λ i l. contains_or_left all next (possible (without s (2 ^ i))) (g.parts i l))
            (contains_or_right all next next (contains_refl next));
      }

  -- what is gathered holds what every part gains, if that is so of the sets before this one
  pub gathers_bound : (columns all : ℕ) → columns ≤ 16 → s < 2 ^ columns → Gathers gain possible columns s all
      → ((around t : ℕ) → around < s → Inside around t → contains (possible around) (gain t) ≡ true)
      → (t : ℕ) → Inside s t → contains all (gain t) ≡ true
  gathers_bound columns all l b g before t inside =
      ⊎_elim (λ same. rw same g.own) (λ lacking. through lacking.0 lacking.1 lacking.2 lacking.3)
      (same_or_lacks columns s t l b inside.small inside.within)
    where
      through : (i : ℕ) → i < columns → has i s ≡ true → has i t ≡ false → contains all (gain t) ≡ true
      through i m h e =
          let rest = without s (2 ^ i) in
          let part : Inside rest t = record { small = inside.small; within = contains_rest s t i inside.within e } in
          contains_trans all (possible rest) (gain t) (g.parts i m)
          (before rest t (without_less s i (below_most columns s l b) (omega arith) h) part)
