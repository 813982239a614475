-- The first bytes of a name written into the table. Assumes nothing.
use mathlib.Core.Path.{◌≡◌}
use mathlib.Core.Bool.{true, false}
use mathlib.Core.List.{List, ◌++◌}
use Prim.Native.Nat.{ℕ, suc, ◌+◌, ◌≤◌, ◌<◌}
use native.Mathlib.Nat.{lt_of_not-le}
use native.Mathlib.Omega.{arith}
use lib.ListN.{length, take, drop}
use Rattle.rules.specs.Lists.{written}
use Rattle.rules.specs.Signs.{byte_at, piece, in_name}
use Rattle.rules.specs.Names.{Run, most_name_bytes}
use Rattle.rules.proofs.Lists.{holds_fails}
use Rattle.rules.proofs.Names.{run_unique}

-- after i bytes: they are of a name, and stand in the table from a place on; all else is as it was
pub record Put (s : List ℕ) (at from : ℕ) (old : List ℕ) (i : ℕ) (new : List ℕ) : Type 0 where
  pub few : i ≤ most_name_bytes
  pub inside : at + i ≤ length s
  pub named : (j : ℕ) → at ≤ j → j < at + i → in_name (byte_at s j) ≡ true
  pub long : length new ≡ length old
  pub holds : new ≡ take from old ++ written (piece s at (at + i)) (drop from old)

module _ (s : List ℕ) (at from : ℕ) (old : List ℕ) where
  module _ (i : ℕ) (new : List ℕ) (put : Put s at from old i new) where
    -- where the name ends it is written
    pub put_ends : in_name (byte_at s (at + i)) ≡ false → (p : ℕ) → Run s at p → new ≡ take from old ++ written (piece s at p) (drop from old)
    put_ends e p run =
        let here : Run s at (at + i) = record { forward = omega arith; goes_on = put.named; ends = e } in
        rw (run_unique run here) put.holds

    -- after 12 bytes a name of no more is written
    pub put_full : most_name_bytes ≤ i → (p : ℕ) → Run s at p → p ≤ at + most_name_bytes → new ≡ take from old ++ written (piece s at p) (drop from old)
    put_full h p run short =
        let past : at + i < suc p = lt_of_not-le (λ (l : suc p ≤ at + i). holds_fails _ (put.named p run.forward l) run.ends) in
        let same : p ≡ at + i = omega (arith, put.few) in
        rw same put.holds
