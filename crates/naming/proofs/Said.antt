-- Bytes that stand somewhere, compared byte by byte. Assumes nothing.
use mathlib.Core.Path.{◌≡◌, refl, sym, ◌∙◌}
use mathlib.Core.List.{List}
use Prim.Native.Nat.{ℕ, ◌+◌, ◌≤◌}
use native.Mathlib.Omega.{arith}
use lib.ListN.{length, drop}
use Rattle.rules.specs.Signs.{byte_at, Says, says_all, says_byte}
use Rattle.rules.proofs.Signs.{inside}

-- past the end bytes of which the first is not 0 stand nowhere
pub past_end : {s bytes : List ℕ} {p : ℕ} → length s ≤ p → (byte_at bytes 0 ≡ 0 → ⊥) → Says s p bytes → ⊥
past_end h n says_all = n refl
past_end {s} {p} h n (says_byte e more) = absurd (omega (arith, inside s p (λ z. n (sym e ∙ z))))

-- the first i bytes stand: all do exactly if the others stand behind them
pub record Matched (s bytes : List ℕ) (at i : ℕ) : Type 0 where
  pub whole : Says s (at + i) (drop i bytes) → Says s at bytes
  pub others : Says s at bytes → Says s (at + i) (drop i bytes)

-- before the first byte
pub matched_none : (s bytes : List ℕ) (at : ℕ) → Matched s bytes at 0
matched_none s bytes at = let e : at + 0 ≡ at = omega arith in record { whole = rw e (λ says. says); others = rw e (λ says. says) }
