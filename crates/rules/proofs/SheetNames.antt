-- The names of a text's columns: they differ, and each is 1 to 12 letters and digits. Assumes nothing.
use mathlib.Core.Path.{◌≡◌, refl, sym, ap, ◌∙◌}
use mathlib.Core.Bool.{Bool, true, false, cond, ◌&&◌, false≢true}
use mathlib.Core.List.{List, [], map}
use Rattle.rules.proofs.Options.{None, Some, none-ne-some}
use Prim.Native.Nat.{ℕ, zero, suc, ◌+◌, ◌-◌, ◌<◌}
use native.Mathlib.Omega.{arith}
use lib.Dec.{ltb, leb}
use lib.ListN.{length, get_or, take, drop, length-drop, get_or-map}
use lib.Seq.{get_or-take, get_or-drop, length-take-le}
use borrow.Author.Tests.{lt-ltb, le-leb}
use Rattle.rules.specs.Lists.{every}
use Rattle.rules.specs.Signs.{piece, in_name}
use Rattle.rules.specs.Names.{Spot, Name, Names, last_name, more_names, same_name, most_name_bytes}
use Rattle.rules.specs.Texts.{Sheet, OfForm}
use Rattle.rules.specs.Refusals.{name_twice}
use Rattle.rules.specs.Sheets.{stands_in, column_fault, sheet_fault, names_of}
use Rattle.rules.proofs.Lists.{and_both, not_any_in, get_d_in}
use Rattle.rules.proofs.Signs.{named_inside}
use Rattle.rules.proofs.Names.{name_some}
use Rattle.rules.proofs.ListTests.{every_weaker, every_places}
use Rattle.rules.proofs.Sheets.{nowhere, faultless, no_fault}

-- ---- no two columns have the same name

not_twice : (before : List Spot) (x : Spot) → column_fault before x ≡ None → stands_in before x ≡ false
unfolding column_fault
not_twice before x e = go (stands_in before x) e
  where
    go : (b : Bool) → cond b (Some name_twice) None ≡ None → b ≡ false
    go true q = absurd (none-ne-some name_twice (sym q))
    go false q = refl

-- two columns of a text without a fault have different names
pub columns_differ : (sheet : Sheet) → sheet_fault sheet ≡ None → (i j : ℕ) (d : Spot) → i < j → j < length sheet.columns
    → same_name (get_or sheet.columns i d).name (get_or sheet.columns j d).name ≡ false
unfolding stands_in
columns_differ sheet e i j d l h =
    let names = sheet.columns in
    let new = not_twice (take j names) (get_or names j d) (no_fault column_fault [] names (faultless sheet e).columns j d h) in
    let long = length-take-le j names (omega arith) in
    ap (λ (x : Spot). same_name x.name (get_or names j d).name) (sym (get_or-take j names i d l))
    ∙ not_any_in (λ c. same_name c.name (get_or names j d).name) new (get_d_in (take j names) i d (omega arith))

-- two names of its job are different
pub names_differ : (sheet : Sheet) → sheet_fault sheet ≡ None → (i j : ℕ) → i < j → j < length sheet.columns
    → same_name (get_or (names_of sheet) i []) (get_or (names_of sheet) j []) ≡ false
unfolding names_of
names_differ sheet e i j l h =
    rw (get_or-map (λ x. x.name) sheet.columns i nowhere, get_or-map (λ x. x.name) sheet.columns j nowhere)
    (columns_differ sheet e i j nowhere l h)

-- ---- the bytes of names

name_length : (s : List ℕ) (p q : ℕ) → Name s p q → length (piece s p q) ≡ q - p
name_length s p q n =
    let l = name_some n in
    let last = named_inside s (q - 1) (n.run.goes_on (q - 1) (omega arith) (omega arith)) in
    length-take-le (q - p) (drop p s) (omega (arith, length-drop p s))

name_long_lem : (s : List ℕ) (p q : ℕ) → Name s p q → (ltb 0 (length (piece s p q)) && leb (length (piece s p q)) most_name_bytes) ≡ true
name_long_lem s p q n =
    rw (name_length s p q n)
    (and_both _ _ (lt-ltb 0 (q - p) (omega (arith, name_some n))) (le-leb (q - p) most_name_bytes (omega (arith, n.short))))

name_bytes : (s : List ℕ) (p q : ℕ) → Name s p q → every in_name (piece s p q) ≡ true
name_bytes s p q n = every_places in_name (piece s p q) 0 byte
  where
    byte : (i : ℕ) → i < length (piece s p q) → in_name (get_or (piece s p q) i 0) ≡ true
    byte i h =
        let l : i < q - p = omega (arith, name_length s p q n) in
        rw (get_or-take (q - p) (drop p s) i 0 l, get_or-drop p s i 0) (n.run.goes_on (p + i) (omega arith) (omega arith))

-- what holds of the bytes of every name holds of those of names joined by a sign
names_all : (test : List ℕ → Bool) {s : List ℕ} {sign p q : ℕ} {spots : List Spot} → ((p q : ℕ) → Name s p q → test (piece s p q) ≡ true)
    → Names s sign p q spots → every test (map (λ x. x.name) spots) ≡ true
unfolding every
names_all test {s} {p = p} {q = q} holds (last_name n e) = and_both (test (piece s p q)) true (holds p q n) refl
names_all test {s} {p = p} holds (more_names {r = r} n e more) = and_both (test (piece s p r)) _ (holds p r n) (names_all test holds more)

-- every name of a text's job has 1 to 12 bytes
pub names_short : (s : List ℕ) (sheet : Sheet) → OfForm s sheet
    → every (λ name. ltb 0 (length name) && leb (length name) most_name_bytes) (names_of sheet) ≡ true
unfolding names_of
names_short s sheet form = names_all (λ name. ltb 0 (length name) && leb (length name) most_name_bytes) (name_long_lem s) form.columns

-- its bytes are letters and digits
pub names_bytes : (s : List ℕ) (sheet : Sheet) → OfForm s sheet → every (every in_name) (names_of sheet) ≡ true
unfolding names_of
names_bytes s sheet form = names_all (every in_name) (name_bytes s) form.columns

-- so no byte is 0
pub names_nonzero : (s : List ℕ) (sheet : Sheet) → OfForm s sheet → every (every (λ b. ltb 0 b)) (names_of sheet) ≡ true
names_nonzero s sheet form =
    every_weaker (every in_name) (every (λ b. ltb 0 b)) (names_of sheet) (λ name. every_weaker in_name (λ b. ltb 0 b) name byte)
    (names_bytes s sheet form)
  where
    byte : (b : ℕ) → in_name b ≡ true → ltb 0 b ≡ true
    byte zero e = absurd (false≢true e)
    byte (suc b) e = lt-ltb 0 (suc b) (omega arith)
