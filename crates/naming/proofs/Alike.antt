-- Two names compared byte by byte. Assumes nothing.
use mathlib.Core.Path.{◌≡◌, refl, sym, ◌∙◌}
use mathlib.Core.Bool.{Bool, true, false, not}
use mathlib.Core.List.{List, [], ◌∷◌}
use Prim.Native.Nat.{ℕ, suc, ◌+◌, ◌-◌, ◌<◌}
use native.Mathlib.Omega.{arith}
use lib.ListN.{length}
use lib.Seq.{drop-cons}
use borrow.Author.Tests.{eq-eqb, ne_eqb}
use Rattle.rules.specs.Signs.{byte_at, piece, in_name}
use Rattle.rules.specs.Names.{Run, same_name}
use Rattle.rules.proofs.Signs.{named_inside}
use Rattle.naming.proofs.Runs.{run_none, run_some, run_later}

-- a piece that a byte in a name begins
piece_some : (s : List ℕ) (p q : ℕ) → p < q → p < length s → piece s p q ≡ byte_at s p ∷ piece s (p + 1) q
piece_some s p q h l =
    let e : q - p ≡ suc (q - (p + 1)) = omega arith in
    let f : p + 1 ≡ suc p = omega arith in
    rw (drop-cons s p 0 l, e, f)

piece_none : (s : List ℕ) (p : ℕ) → piece s p p ≡ []
piece_none s p = let e : p - p ≡ 0 = omega arith in rw e

module _ {s : List ℕ} {p q : ℕ} (run : Run s p q) where
  run_piece : in_name (byte_at s p) ≡ true → piece s p q ≡ byte_at s p ∷ piece s (p + 1) q
  run_piece e = piece_some s p q (run_some run e) (named_inside s p e)

  run_empty : in_name (byte_at s p) ≡ false → piece s p q ≡ []
  run_empty e = rw (run_none run e) (piece_none s p)

-- the names at two places are alike as far as i bytes: whether they are the same is whether they are from there on
pub record Alike (s : List ℕ) (one other i p q : ℕ) : Type 0 where
  one_run : Run s (one + i) p
  other_run : Run s (other + i) q
  pub same : same_name (piece s one p) (piece s other q) ≡ same_name (piece s (one + i) p) (piece s (other + i) q)

-- as far as no byte every two names are alike
pub alike_none : {s : List ℕ} {one other p q : ℕ} → Run s one p → Run s other q → Alike s one other 0 p q
alike_none {s} {one} {other} {p} {q} a b =
    let e : one + 0 ≡ one = omega arith in
    let f : other + 0 ≡ other = omega arith in
    record { one_run = rw e a; other_run = rw f b; same = rw (e, f) }

module _ {s : List ℕ} {one other i p q : ℕ} (alike : Alike s one other i p q) where
  -- bytes of names that are the same make them alike one byte further
  pub alike_more : in_name (byte_at s (one + i)) ≡ true → byte_at s (one + i) ≡ byte_at s (other + i) → Alike s one other (i + 1) p q
  unfolding same_name
  alike_more e f =
      let a : one + i + 1 ≡ one + (i + 1) = omega arith in
      let b : other + i + 1 ≡ other + (i + 1) = omega arith in
      let g : in_name (byte_at s (other + i)) ≡ true = rw (sym f) e in
      let step : same_name (piece s (one + i) p) (piece s (other + i) q) ≡ same_name (piece s (one + i + 1) p) (piece s (other + i + 1) q) =
      rw (run_piece alike.one_run e, run_piece alike.other_run g, f, eq-eqb (byte_at s (other + i)) (byte_at s (other + i)) refl) in
      record {
        one_run = rw (sym a) (run_later alike.one_run e);
        other_run = rw (sym b) (run_later alike.other_run g);
        same = alike.same ∙ rw (sym a, sym b) step;
      }

  -- bytes that differ make the names differ
  pub alike_other : in_name (byte_at s (one + i)) ≡ true → (byte_at s (one + i) ≡ byte_at s (other + i) → ⊥)
      → same_name (piece s one p) (piece s other q) ≡ false
  unfolding same_name
  alike_other e f = alike.same ∙ go (in_name (byte_at s (other + i))) refl
    where
      go : (b : Bool) → in_name (byte_at s (other + i)) ≡ b → same_name (piece s (one + i) p) (piece s (other + i) q) ≡ false
      go true g = rw (run_piece alike.one_run e, run_piece alike.other_run g, ne_eqb (byte_at s (one + i)) (byte_at s (other + i)) f)
      go false g = rw (run_piece alike.one_run e, run_empty alike.other_run g)

  -- where the one name ends they are the same if the other ends too
  pub alike_end : in_name (byte_at s (one + i)) ≡ false → same_name (piece s one p) (piece s other q) ≡ not (in_name (byte_at s (other + i)))
  unfolding same_name
  alike_end e = alike.same ∙ go (in_name (byte_at s (other + i))) refl
    where
      go : (b : Bool) → in_name (byte_at s (other + i)) ≡ b → same_name (piece s (one + i) p) (piece s (other + i) q) ≡ not b
      go true g = rw (run_empty alike.one_run e, run_piece alike.other_run g)
      go false g = rw (run_empty alike.one_run e, run_empty alike.other_run g)
