-- Brackets counted byte by byte. Assumes nothing.
use mathlib.Core.Path.{◌≡◌, refl, sym, ◌∙◌, ap}
use mathlib.Core.Bool.{cond}
use mathlib.Core.List.{List, [], ◌∷◌, ◌++◌}
use Prim.Native.Nat.{ℕ, ◌+◌, ◌-◌, ◌≤◌, ◌<◌}
use native.Mathlib.Numerals.{add-one}
use native.Mathlib.Omega.{arith}
use lib.Dec.{eqb}
use lib.ListN.{length, take}
use lib.Seq.{take-suc}
use borrow.Author.Tests.{ne_eqb}
use Rattle.rules.specs.Signs.{byte_at, bracket_open, bracket_close}
use Rattle.advice.specs.Sentences.{open_after}

open_append : (d : ℕ) (xs ys : List ℕ) → open_after d (xs ++ ys) ≡ open_after (open_after d xs) ys
unfolding open_after
open_append d [] ys = refl
open_append d (b ∷ xs) ys = open_append (cond (eqb b bracket_open) (d + 1) (cond (eqb b bracket_close) (d - 1) d)) xs ys

-- so many brackets are open behind the first i bytes
pub record Opened (s : List ℕ) (i opened : ℕ) : Type 0 where
  pub few : opened ≤ i
  pub is : opened ≡ open_after 0 (take i s)

-- before the first byte
pub opened_none : (s : List ℕ) → Opened s 0 0
unfolding open_after
opened_none s = record { few = omega arith; is = refl }

-- behind all bytes before a place
pub opened_all : {s : List ℕ} {i opened place : ℕ} → Opened s i opened → i ≡ place → opened ≡ open_after 0 (take place s)
opened_all {s} o e = o.is ∙ ap (λ (k : ℕ). open_after 0 (take k s)) e

module _ {s : List ℕ} {i opened : ℕ} (o : Opened s i opened) (h : i < length s) where
  opened_more : open_after 0 (take (i + 1) s) ≡ open_after opened (byte_at s i ∷ [])
  opened_more = rw (add-one, take-suc s i 0 h, open_append 0 (take i s) (byte_at s i ∷ []), o.is)

  -- a bracket that opens
  pub opened_open : byte_at s i ≡ bracket_open → Opened s (i + 1) (opened + 1)
  unfolding open_after
  opened_open e = record { few = omega (arith, o.few); is = sym (opened_more ∙ rw e) }

  -- a bracket that closes
  pub opened_close : byte_at s i ≡ bracket_close → Opened s (i + 1) (opened - 1)
  unfolding open_after
  opened_close e = record { few = omega (arith, o.few); is = sym (opened_more ∙ rw e) }

  -- any other byte
  pub opened_other : (byte_at s i ≡ bracket_open → ⊥) → (byte_at s i ≡ bracket_close → ⊥) → Opened s (i + 1) opened
  unfolding open_after
  opened_other e f =
      record { few = omega (arith, o.few); is = sym (opened_more ∙ rw (ne_eqb (byte_at s i) bracket_open e, ne_eqb (byte_at s i) bracket_close f)) }
