-- Names stand in a text in one way; the name at a place; when two are the same. Assumes nothing.
use mathlib.Core.Path.{◌≡◌, refl, ap, ap₂, subst⁻¹, ◌∙◌}
use mathlib.Core.Bool.{true, false, false≢true}
use mathlib.Core.List.{List, [], ◌∷◌}
use Prim.Native.Nat.{ℕ, zero, suc, ◌+◌, ◌-◌, ◌<◌, ◌≤◌}
use native.Mathlib.Decide.{dec_lt}
use native.Mathlib.Omega.{arith}
use lib.Dec.{eqb}
use lib.ListN.{length, take, drop, drop_of_length-le}
use lib.Seq.{drop-cons}
use borrow.Author.Tests.{eqb-true, eq-eqb}
use Rattle.rules.specs.Signs.{byte_at, piece, in_name}
use Rattle.rules.specs.Names.{Run, Name, Spot, spot, Names, last_name, more_names, beginning, name_at, same_name}
use Rattle.rules.proofs.Lists.{and_parts, holds_fails}
use Rattle.rules.proofs.Signs.{letter_named, named_inside}

-- ---- in one way

-- from one place letters and digits go on to one place only
pub run_unique : {s : List ℕ} {p q q' : ℕ} → Run s p q → Run s p q' → q ≡ q'
run_unique {s} {p} {q} {q'} a b = go (dec_lt q q') (dec_lt q' q)
  where
    go : Dec (q < q') → Dec (q' < q) → q ≡ q'
    go (yes l) d = holds_fails (in_name (byte_at s q)) (b.goes_on q a.forward l) a.ends
    go (no n) (yes l) = holds_fails (in_name (byte_at s q')) (a.goes_on q' b.forward l) b.ends
    go (no n) (no m) = omega arith

-- the first byte of a name is one of names
pub name_begins : {s : List ℕ} {p q : ℕ} → Name s p q → in_name (byte_at s p) ≡ true
name_begins {s} {p} n = letter_named (byte_at s p) n.begins

-- a name is not empty
pub name_some : {s : List ℕ} {p q : ℕ} → Name s p q → p < q
name_some {s} {p} {q} a = go (dec_lt p q)
  where
    go : Dec (p < q) → p < q
    go (yes l) = l
    go (no n) =
        let f = a.run.forward in
        let e : p ≡ q = omega arith in
        holds_fails (in_name (byte_at s p)) (name_begins a) (ap (λ (k : ℕ). in_name (byte_at s k)) e ∙ a.run.ends)

-- names joined by a sign stand from one place to one place only, and are the same names
pub names_unique : {s : List ℕ} {sign p q q' : ℕ} {xs ys : List Spot} → Names s sign p q xs → Names s sign p q' ys → (q ≡ q') × (xs ≡ ys)
names_unique {s} {p} (last_name a n) (last_name b m) =
    let e = run_unique a.run b.run in (e, ap (λ (q : ℕ). spot s p q ∷ []) e)
names_unique {s} (last_name a n) (more_names b f y) = absurd (n (ap (byte_at s) (run_unique a.run b.run) ∙ f))
names_unique {s} (more_names a e x) (last_name b m) = absurd (m (ap (byte_at s) (run_unique b.run a.run) ∙ e))
names_unique {s} {sign} {p} (more_names a e x) (more_names {q} {spots} b f y) =
    let h = run_unique a.run b.run in
    let t = names_unique x (subst⁻¹ (λ (k : ℕ). Names s sign (k + 1) q spots) h y) in
    (t.0, ap₂ (λ (k : ℕ) (zs : List Spot). spot s p k ∷ zs) h t.1)

-- ---- the name at a place

-- a run of letters and digits that begins within a text ends there
pub run_within : {s : List ℕ} {p q : ℕ} → Run s p q → p ≤ length s → q ≤ length s
run_within {s} {p} {q} run h = go (dec_lt p q)
  where
    go : Dec (p < q) → q ≤ length s
    go (yes l) = omega (arith, named_inside s (q - 1) (run.goes_on (q - 1) (omega arith) (omega arith)))
    go (no n) = omega arith

-- past the end there is no name
pub name_none : (s : List ℕ) (p : ℕ) → length s ≤ p → name_at s p ≡ []
unfolding beginning
name_none s p h = rw (drop_of_length-le s h)

beginning_none : (s : List ℕ) (p : ℕ) → in_name (byte_at s p) ≡ false → beginning (drop p s) ≡ []
unfolding beginning
beginning_none s p e = go (dec_lt p (length s))
  where
    go : Dec (p < length s) → beginning (drop p s) ≡ []
    go (yes l) = rw (drop-cons s p 0 l, e)
    go (no n) = name_none s p (omega arith)

beginning_run : (k : ℕ) (s : List ℕ) (p : ℕ) → ((i : ℕ) → p ≤ i → i < p + k → in_name (byte_at s i) ≡ true) → in_name (byte_at s (p + k)) ≡ false
    → beginning (drop p s) ≡ take k (drop p s)
unfolding beginning
beginning_run zero s p f e = let z : p + 0 ≡ p = omega arith in beginning_none s p (rw z at e)
beginning_run (suc k) s p f e =
    let here = f p (omega arith) (omega arith) in
    let z : p + suc k ≡ suc p + k = omega arith in
    let later = beginning_run k s (suc p) (λ i l h. f i (omega arith) (omega arith)) (rw z at e) in
    rw (drop-cons s p 0 (named_inside s p here), here) (ap (λ (l : List ℕ). byte_at s p ∷ l) later)

-- the name at a place is its letters and digits
pub name_run : {s : List ℕ} {p q : ℕ} → Run s p q → name_at s p ≡ piece s p q
name_run {s} {p} {q} run =
    let z : p + (q - p) ≡ q = omega (arith, run.forward) in
    beginning_run (q - p) s p (λ i l h. run.goes_on i l (rw z at h)) (rw z run.ends)

-- ---- the same name

-- names of which the test says so have the same bytes
pub same_bytes : (name other : List ℕ) → same_name name other ≡ true → name ≡ other
unfolding same_name
same_bytes [] [] e = refl
same_bytes [] (c ∷ other) e = absurd (false≢true e)
same_bytes (b ∷ name) [] e = absurd (false≢true e)
same_bytes (b ∷ name) (c ∷ other) e =
    let parts = and_parts (eqb b c) (same_name name other) e in
    ap₂ (λ (d : ℕ) (l : List ℕ). d ∷ l) (eqb-true b c parts.0) (same_bytes name other parts.1)

-- of a name and itself it says so
pub same_name_lem : (name : List ℕ) → same_name name name ≡ true
unfolding same_name
same_name_lem [] = refl
same_name_lem (b ∷ name) = rw (eq-eqb b b refl, same_name_lem name)
