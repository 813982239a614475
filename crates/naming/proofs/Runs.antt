-- The bytes between names, and runs of letters and digits. Assumes nothing.
use mathlib.Core.Path.{◌≡◌, sym, ap, ◌∙◌}
use mathlib.Core.Bool.{Bool, true, false, true≢false}
use mathlib.Core.List.{List}
use Prim.Native.Nat.{ℕ, ◌+◌, ◌<◌, ◌≤◌}
use native.Mathlib.Nat.{lt_of_not-le}
use native.Mathlib.Decide.{ℕ_discrete}
use native.Mathlib.Omega.{arith}
use lib.ListN.{length}
use Rattle.rules.specs.Signs.{byte_at, in_name, line_end}
use Rattle.rules.specs.Names.{Run}
use Rattle.rules.proofs.Lists.{holds_fails}
use Rattle.rules.proofs.Signs.{inside}
use Rattle.naming.specs.Words.{is_sign}

-- ---- bytes

-- a byte that is no sign lies within the text
pub no_sign_inside : (s : List ℕ) (p : ℕ) → is_sign (byte_at s p) ≡ false → p < length s
no_sign_inside s p e = inside s p (λ z. true≢false (sym (ap is_sign z) ∙ e))

-- what the test of a byte that was read says of that byte
pub told : {a b : ℕ} {t u : Bool} → b ≡ a → t ≡ in_name b → t ≡ u → in_name a ≡ u
told e f g = ap in_name (sym e) ∙ sym f ∙ g

-- a byte in a name is no sign
pub name_no_sign : (b : ℕ) → in_name b ≡ true → is_sign b ≡ false
name_no_sign b e = rw e

-- a line's end is no sign
pub end_no_sign : (b : ℕ) → b ≡ line_end → is_sign b ≡ false
end_no_sign b e = rw e

-- a line's end is not in a name
pub end_no_name : (b : ℕ) → b ≡ line_end → in_name b ≡ false
end_no_name b e = rw e

-- what holds from p to before q and at q holds to before q + 1
pub from_more : (P : ℕ → Type 0) {p q : ℕ} → ((i : ℕ) → p ≤ i → i < q → P i) → P q → (i : ℕ) → p ≤ i → i < q + 1 → P i
from_more P {p} {q} before here i l h = go (ℕ_discrete i q)
  where
    go : Dec (i ≡ q) → P i
    go (yes e) = rw e here
    go (no n) = before i l (omega arith)

-- ---- runs of letters and digits

module _ {s : List ℕ} {p q : ℕ} (run : Run s p q) where
  -- where the first byte is in no name the run is empty
  pub run_none : in_name (byte_at s p) ≡ false → q ≡ p
  run_none e = go (ℕ_discrete q p)
    where
      go : Dec (q ≡ p) → q ≡ p
      go (yes h) = h
      go (no n) = let h : p < q = omega (arith, run.forward) in holds_fails _ (run.goes_on p (omega arith) h) e

  -- where the first byte is in a name the run goes past it
  pub run_some : in_name (byte_at s p) ≡ true → p < q
  run_some e = lt_of_not-le (λ (h : q ≤ p). let h' : p ≡ q = omega (arith, run.forward) in holds_fails _ e (rw h' run.ends))

  -- and from the next place on it is a run too
  pub run_later : in_name (byte_at s p) ≡ true → Run s (p + 1) q
  run_later e =
      let h : p + 1 ≤ q = omega (arith, run_some e) in
      record { forward = h; goes_on = λ i l k. run.goes_on i (omega arith) k; ends = run.ends }
