-- Keys byte by byte: which bytes of two are the same, and that no key is the beginning of another, so one stands at a place. Assumes nothing.
use mathlib.Core.Path.{◌≡◌, refl, sym, ap, ◌∙◌}
use mathlib.Core.Bool.{Bool, true, false}
use mathlib.Core.List.{List, [], ◌∷◌}
use Prim.Native.Nat.{ℕ, zero, suc, ◌+◌, ◌*◌, ◌/◌, ◌%◌, ◌^◌, ◌<◌, ◌≤◌}
use native.Mathlib.Nat.{lt_of_not-le}
use native.Mathlib.Numerals.{add-one}
use native.Mathlib.Omega.{arith}
use lib.Dec.{ltb, leb, eqb}
use lib.ListN.{length}
use borrow.Author.Count.{below_more}
use borrow.Author.Tests.{leb-true, leb-false, eqb-true, eq-eqb}
use Rattle.rules.specs.Lists.{every, up_from}
use Rattle.rules.specs.Signs.{byte_at, Says, says_all, says_byte}
use Rattle.rules.proofs.Lists.{and_parts, and_both, every_in, up_from_in}
use Rattle.naming.specs.Sections.{key_of, width_of, packed, alike}
use Rattle.naming.specs.declared.sections.Section.{Section}
use Rattle.naming.proofs.AllSections.{order, same_order, each, each_pair, whenever, then_holds}

-- ---- bytes of keys

-- no byte of a key is 0
pub key_bytes : (section : Section) → every (ltb 0) (key_of section) ≡ true
unfolding every
key_bytes section = each (λ a. every (ltb 0) (key_of a)) refl section

-- a key's bytes can be taken out of its number, which has all of them
pub packed_byte : (section : Section) (k : ℕ) → k < 8 → packed (key_of section) / 2 ^ (8 * k) % 256 ≡ byte_at (key_of section) k
unfolding every up_from packed
packed_byte section k h =
    eqb-true _ _
    (every_in (λ i. eqb (packed (key_of section) / 2 ^ (8 * i) % 256) (byte_at (key_of section) i))
    (each (λ a. every (λ i. eqb (packed (key_of a) / 2 ^ (8 * i) % 256) (byte_at (key_of a) i)) (up_from 0 8)) refl section)
    (up_from_in 0 8 k (omega arith) (omega arith)))

-- k bytes stand from place p on that are the first ones of these
abbrev pub Begun : List ℕ → ℕ → List ℕ → ℕ → Type 0
Begun s p bytes k = (i : ℕ) → i < k → byte_at s (p + i) ≡ byte_at bytes i

-- all of them stand
pub said_begun : {s bytes : List ℕ} {p : ℕ} → Says s p bytes → Begun s p bytes (length bytes)
said_begun says_all i h = absurd (omega arith)
said_begun {s} (says_byte {p} e more) zero h = let place : p + 0 ≡ p = omega arith in rw place e
said_begun {s} (says_byte {p} e more) (suc i) h = let place : p + suc i ≡ suc p + i = omega arith in rw place (said_begun more i (omega arith))

pub begun_said : (s bytes : List ℕ) (p : ℕ) → Begun s p bytes (length bytes) → Says s p bytes
begun_said s [] p f = says_all
begun_said s (b ∷ bytes) p f =
    let here : p + 0 ≡ p = omega arith in
    says_byte (rw here at (f 0 (omega arith)))
    (begun_said s bytes (suc p) (λ i h. let place : p + suc i ≡ suc p + i = omega arith in rw place at (f (suc i) (omega arith))))

-- ---- keys that begin alike

-- the first k bytes of two keys are the same
abbrev pub SameTo : Section → Section → ℕ → Type 0
SameTo a b k = (i : ℕ) → i < k → byte_at (key_of a) i ≡ byte_at (key_of b) i

pub alike_same : (a b : Section) (k : ℕ) → alike a b k ≡ true → SameTo a b k
unfolding alike
alike_same a b zero e = λ i h. absurd (omega arith)
alike_same a b (suc k) e =
    let parts = and_parts (eqb (byte_at (key_of a) k) (byte_at (key_of b) k)) (alike a b k) e in
    let last = eqb-true (byte_at (key_of a) k) (byte_at (key_of b) k) parts.0 in
    rw (← add-one k) (below_more (λ (i : ℕ). byte_at (key_of a) i ≡ byte_at (key_of b) i) k (alike_same a b k parts.1) last)

pub same_alike : (a b : Section) (k : ℕ) → SameTo a b k → alike a b k ≡ true
unfolding alike
same_alike a b zero f = refl
same_alike a b (suc k) f =
    and_both (eqb (byte_at (key_of a) k) (byte_at (key_of b) k)) (alike a b k) (eq-eqb (byte_at (key_of a) k) (byte_at (key_of b) k) (f k (omega arith)))
    (same_alike a b k (λ i h. f i (omega arith)))

-- no key is the beginning of another: a key whose bytes all begin another is that one
pub apart : (a b : Section) → SameTo a b (width_of a) → a ≡ b
unfolding every alike
apart a b f =
    same_order
    (eqb-true (order a) (order b)
    (then_holds (alike a b (width_of a)) _ (each_pair (λ a b. whenever (alike a b (width_of a)) (eqb (order a) (order b))) refl a b)
    (same_alike a b (width_of a) f)))

-- so of keys that begin alike none ends before another
pub inside_both : (a b : Section) (k : ℕ) → SameTo a b k → k < width_of a → k < width_of b
inside_both a b k f h = lt_of_not-le (λ (g : width_of b ≤ k).
    let same : b ≡ a = apart b a (λ i l. sym (f i (omega arith))) in
    let width = ap width_of same in
    absurd (omega arith))

-- one key stands at a place
pub one_key : {s : List ℕ} {p : ℕ} (a b : Section) → Says s p (key_of a) → Says s p (key_of b) → a ≡ b
one_key a b one other = go (leb (width_of a) (width_of b)) refl
  where
    go : (test : Bool) → leb (width_of a) (width_of b) ≡ test → a ≡ b
    go true e =
        let h = leb-true (width_of a) (width_of b) e in
        apart a b (λ i l. sym (said_begun one i l) ∙ said_begun other i (omega arith))
    go false e =
        let h = leb-false (width_of a) (width_of b) e in
        sym (apart b a (λ i l. sym (said_begun other i l) ∙ said_begun one i (omega arith)))
