-- What is told by the bytes before a place alone. Assumes nothing.
use mathlib.Core.Path.{◌≡◌, ap, ◌∙◌}
use mathlib.Core.List.{List}
use Prim.Native.Nat.{ℕ, ◌+◌, ◌-◌, ◌≤◌}
use native.Mathlib.Omega.{arith}
use lib.ListN.{length, take, drop}
use lib.Seq.{length-take-le}
use Rattle.std.proofs.lemmas.List.{drop-take, take-take}
use Rattle.rules.specs.Signs.{piece}
use Rattle.rules.specs.Names.{most_name_bytes}
use Rattle.advice.specs.Sentences.{name_full}

module _ (s : List ℕ) (p : ℕ) (within : p ≤ length s) where
  -- a piece of them is that of the text
  piece_before : (i : ℕ) → i ≤ p → piece (take p s) i p ≡ piece s i p
  piece_before i h =
      let e : p ≡ i + (p - i) = omega arith in
      let dropped : drop i (take p s) ≡ take (p - i) (drop i s) = ap (λ (k : ℕ). drop i (take k s)) e ∙ drop-take i (p - i) s in
      ap (take (p - i)) dropped ∙ take-take (p - i) (p - i) (drop i s) (omega arith)

  -- so they alone tell whether a name is full
  pub full_before : name_full (take p s) (length (take p s)) ≡ name_full s p
  unfolding name_full
  full_before = rw (length-take-le p s within, piece_before (p - most_name_bytes) (omega arith))
