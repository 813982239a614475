-- Walks over the names of a line: from a place past the signs to a name, from the name's first byte to its end, and so on. Assumes nothing.
use mathlib.Core.Path.{◌≡◌, refl, sym, ap, ◌∙◌}
use mathlib.Core.Bool.{Bool, true, false}
use mathlib.Core.List.{List, [], ◌∷◌, ◌++◌}
use Prim.Native.Nat.{ℕ, suc, ◌+◌, ◌<◌, ◌≤◌}
use native.Mathlib.Nat.{lt_of_not-le}
use native.Mathlib.Decide.{ℕ_discrete}
use native.Mathlib.Omega.{arith}
use lib.Dec.{ltb}
use lib.ListN.{length}
use borrow.Author.Tests.{ltb-true, ltb-false}
use Rattle.rules.specs.Signs.{byte_at, in_name, line_end}
use Rattle.rules.specs.Names.{Spot, spot, Run, Name}
use Rattle.rules.proofs.Lists.{holds_fails}
use Rattle.rules.proofs.Names.{run_unique, name_some, name_begins}
use Rattle.naming.specs.Words.{is_sign, Skips, Ends, Between, nothing, sign, word, Words}
use Rattle.naming.proofs.Runs.{no_sign_inside, name_no_sign, end_no_sign, end_no_name}

-- ---- walks over names

-- a walk goes forward
pub between_forward : {s : List ℕ} {p q : ℕ} {xs : List Spot} → Between s p q xs → p ≤ q
between_forward {s} {p} {q} nothing = omega arith
between_forward {s} {p} {q} (sign e b) = omega (arith, between_forward b)
between_forward {s} {p} {q} (word n b) = omega (arith, between_forward b, name_some n)

-- names and more names behind them
pub between_append : {s : List ℕ} {p r q : ℕ} {xs ys : List Spot} → Between s p r xs → Between s r q ys → Between s p q (xs ++ ys)
between_append nothing c = c
between_append (sign e b) c = sign e (between_append b c)
between_append (word n b) c = word n (between_append b c)

-- from a place to itself there is no name
pub between_none : {s : List ℕ} {p : ℕ} {xs : List Spot} → Between s p p xs → xs ≡ []
between_none {s} {p} {xs} b = go refl b
  where
    go : {q : ℕ} {ys : List Spot} → p ≡ q → Between s p q ys → ys ≡ []
    go e nothing = refl
    go {q} e (sign f b) = absurd (omega (arith, between_forward b))
    go {q} e (word n b) = absurd (omega (arith, between_forward b, name_some n))

-- past signs a walk gets no further than to a byte that is none
skips_within : {s : List ℕ} {p q r : ℕ} {xs : List Spot} → Between s p q xs → is_sign (byte_at s q) ≡ false → Skips s p r → r ≤ q
skips_within {s} {p} {q} {r} b e k =
    let h : r < suc q = lt_of_not-le (λ (l : suc q ≤ r). holds_fails _ (k.signs q (between_forward b) l) e) in
    omega arith

-- and stops at a byte that is none
pub skips_stops : {s : List ℕ} {p q r : ℕ} {xs : List Spot} → Between s p q xs → is_sign (byte_at s q) ≡ false → Skips s p r
    → is_sign (byte_at s r) ≡ false
skips_stops {s} {p} {q} {r} b e k = k.stops (omega (arith, skips_within b e k, no_sign_inside s q e))

-- where a byte that is no sign stands no sign is skipped
skips_none : {s : List ℕ} {p r : ℕ} → Skips s p r → is_sign (byte_at s p) ≡ false → r ≡ p
skips_none {s} {p} {r} k e = go (ℕ_discrete r p)
  where
    go : Dec (r ≡ p) → r ≡ p
    go (yes h) = h
    go (no n) = holds_fails _ (k.signs p (omega arith) (omega (arith, k.forward))) e

-- where a sign stands it is skipped
skips_later : {s : List ℕ} {p r : ℕ} → Skips s p r → is_sign (byte_at s p) ≡ true → is_sign (byte_at s r) ≡ false → Skips s (p + 1) r
skips_later {s} {p} {r} k e f = go (ℕ_discrete r p)
  where
    go : Dec (r ≡ p) → Skips s (p + 1) r
    go (yes h) = holds_fails (is_sign (byte_at s p)) e (rw (sym h) f)
    go (no n) =
        let inside : p + 1 ≤ length s → r ≤ length s = λ l. k.inside (omega arith) in
        let signs : (i : ℕ) → p + 1 ≤ i → i < r → is_sign (byte_at s i) ≡ true = λ i l h. k.signs i (omega arith) h in
        record { forward = omega (arith, k.forward); inside = inside; signs = signs; stops = k.stops }

skips_past : {s : List ℕ} {p q r : ℕ} {xs : List Spot} → Between s p q xs → is_sign (byte_at s q) ≡ false → is_sign (byte_at s r) ≡ false → Skips s p r
    → Between s r q xs
skips_past {s} {p} {q} {r} {xs} nothing e f k = rw (skips_none k e) nothing
skips_past {s} {p} {q} {r} {xs} (sign g b) e f k = skips_past b e f (skips_later k g f)
skips_past {s} {p} {q} {r} {xs} (word n b) e f k = rw (skips_none k (name_no_sign (byte_at s p) (name_begins n))) (word n b)

-- from the place past the signs on the names are the same
pub skips_between : {s : List ℕ} {p q r : ℕ} {xs : List Spot} → Between s p q xs → is_sign (byte_at s q) ≡ false → Skips s p r → Between s r q xs
skips_between b e k = skips_past b e (skips_stops b e k) k

-- the first of the names from a place on, and the names behind it
pub record First (s : List ℕ) (p r q : ℕ) (xs : List Spot) : Type 0 where
  pub later : List Spot
  pub same : xs ≡ spot s p r ∷ later
  pub name : Name s p r
  pub between : Between s r q later

-- where a byte in a name stands before the end, a name is the first
pub some_name : {s : List ℕ} {p q : ℕ} {xs : List Spot} → Between s p q xs → in_name (byte_at s p) ≡ true → (p ≡ q → ⊥)
    → (r : ℕ) × First s p r q xs
some_name nothing e n = absurd (n refl)
some_name {s} {p} (sign f b) e n = holds_fails _ f (name_no_sign (byte_at s p) e)
some_name (word {r} {names} a b) e n = (r, record { later = names; same = refl; name = a; between = b })

-- and it ends where the letters and digits end
pub at_name : {s : List ℕ} {p r q : ℕ} {xs : List Spot} → Between s p q xs → in_name (byte_at s p) ≡ true → (p ≡ q → ⊥) → Run s p r → First s p r q xs
at_name b e n run = let f = some_name b e n in rw (run_unique run f.1.name.run) f.1

-- where neither a sign nor a byte of a name stands the names are at their end
pub at_end : {s : List ℕ} {p q : ℕ} {xs : List Spot} → Between s p q xs → is_sign (byte_at s p) ≡ false → in_name (byte_at s p) ≡ false
    → (p ≡ q) × (xs ≡ [])
at_end nothing e f = (refl, refl)
at_end (sign g b) e f = holds_fails _ g e
at_end (word n b) e f = holds_fails _ (name_begins n) f

-- ---- walks to a line's end

module _ {s : List ℕ} {p q : ℕ} {xs : List Spot} (w : Words s p q xs) where
  -- the line's end is no sign
  words_ends : is_sign (byte_at s q) ≡ false
  words_ends = end_no_sign (byte_at s q) w.ends

  -- and stops at a byte that is no sign
  words_stops : {r : ℕ} → Skips s p r → is_sign (byte_at s r) ≡ false
  words_stops k = skips_stops w.between words_ends k

  -- from the place past the signs on the names are the same
  words_skips : {r : ℕ} → Skips s p r → Words s r q xs
  words_skips k = record { between = skips_between w.between words_ends k; ends = w.ends }

  -- a byte in a name is not the line's end
  words_before : in_name (byte_at s p) ≡ true → p ≡ q → ⊥
  words_before e f = holds_fails _ e (end_no_name (byte_at s p) (ap (byte_at s) f ∙ w.ends))

  -- where a byte in a name stands, a name is the first
  pub words_some : in_name (byte_at s p) ≡ true → (r : ℕ) × First s p r q xs
  words_some e = some_name w.between e (words_before e)

  -- and it ends where the letters and digits end
  words_name : {r : ℕ} → in_name (byte_at s p) ≡ true → Run s p r → First s p r q xs
  words_name e run = at_name w.between e (words_before e) run

  -- behind the first name the others go on to the line's end
  words_later : {r : ℕ} → (f : First s p r q xs) → Words s r q f.later
  words_later f = record { between = f.between; ends = w.ends }

  -- where neither a sign nor a byte of a name stands the line ends
  words_end : is_sign (byte_at s p) ≡ false → in_name (byte_at s p) ≡ false → (p ≡ q) × (xs ≡ [])
  words_end e f = at_end w.between e f

-- the names of a line from a place on that is past the signs: a name stands there, or the line ends
pub record Ahead (s : List ℕ) (p q : ℕ) (xs : List Spot) : Type 0 where
  pub words : Words s p q xs
  pub stops : is_sign (byte_at s p) ≡ false

-- the name at a place of a line, and the names from the next name's place on
pub record Turn (s : List ℕ) (p r n q : ℕ) (xs : List Spot) : Type 0 where
  pub later : List Spot
  pub same : xs ≡ spot s p r ∷ later
  pub name : Name s p r
  pub ahead : Ahead s n q later

-- where the signs are skipped the names of the line are ahead
pub ahead_start : {s : List ℕ} {p n q : ℕ} {xs : List Spot} → Words s p q xs → Skips s p n → Ahead s n q xs
ahead_start w k = record { words = words_skips w k; stops = words_stops w k }

module _ {s : List ℕ} {p q : ℕ} {xs : List Spot} (a : Ahead s p q xs) where
  -- where a byte in a name stands, its name is the first, and past the signs behind it the others are ahead
  pub ahead_turn : {r n : ℕ} → in_name (byte_at s p) ≡ true → Run s p r → Skips s r n → Turn s p r n q xs
  ahead_turn e run k =
      let f = words_name a.words e run in
      record { later = f.later; same = f.same; name = f.name; ahead = ahead_start (words_later a.words f) k }

  -- where no byte of a name stands the line ends
  pub ahead_end : in_name (byte_at s p) ≡ false → (p ≡ q) × (xs ≡ [])
  ahead_end e = words_end a.words a.stops e

-- ---- a line's end

-- no line ends among names
between_line : {s : List ℕ} {p q : ℕ} {xs : List Spot} → Between s p q xs → (i : ℕ) → p ≤ i → i < q → byte_at s i ≡ line_end → ⊥
between_line {s} {p} {q} nothing i l h e = absurd (omega arith)
between_line {s} {p} {q} (sign f b) i l h e = go (ℕ_discrete i p) (λ m k g. between_line b i m k g)
  where
    go : Dec (i ≡ p) → (p + 1 ≤ i → i < q → byte_at s i ≡ line_end → ⊥) → ⊥
    go (yes g) later = holds_fails _ f (end_no_sign (byte_at s p) (ap (byte_at s) (sym g) ∙ e))
    go (no n) later = later (omega arith) h e
between_line {s} {p} {q} (word {r} n b) i l h e = go (ltb i r) refl (λ m k g. between_line b i m k g)
  where
    go : (t : Bool) → ltb i r ≡ t → (r ≤ i → i < q → byte_at s i ≡ line_end → ⊥) → ⊥
    go true f later = holds_fails _ (n.run.goes_on i l (ltb-true i r f)) (end_no_name (byte_at s i) e)
    go false f later = later (ltb-false i r f) h e

-- so a line goes to its end behind its names
pub words_line : {s : List ℕ} {p q : ℕ} {xs : List Spot} → Words s p q xs → Ends s p q
words_line {s} {p} {q} w =
    let inside = no_sign_inside s q (words_ends w) in
    record { forward = between_forward w.between; inside = λ l. omega arith; goes_on = between_line w.between; stops = λ l. w.ends }

-- the names of a line go to where the line ends
pub ends_words : {s : List ℕ} {p q r : ℕ} {xs : List Spot} → Words s p q xs → Ends s p r → r ≡ q
ends_words {s} {p} {q} {r} w k =
    let least : r < suc q = lt_of_not-le (λ (l : suc q ≤ r). k.goes_on q (between_forward w.between) l w.ends) in
    let inside = no_sign_inside s q (words_ends w) in
    let most : q < suc r = lt_of_not-le (λ (l : suc r ≤ q). between_line w.between r k.forward l (k.stops (omega arith))) in
    omega arith
