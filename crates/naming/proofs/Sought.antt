-- A name sought among others: what is known while they are gone through. Assumes nothing.
use mathlib.Core.Path.{◌≡◌, refl, ap, ◌∙◌}
use mathlib.Core.Bool.{true, false}
use mathlib.Core.List.{List, [], ◌∷◌}
use Rattle.rules.specs.Options.{Option, None, Some, option_map}
use Prim.Native.Nat.{ℕ, suc, ◌+◌, ◌<◌, ◌≤◌}
use native.Mathlib.Nat.{zero-add, add-zero}
use native.Mathlib.Omega.{arith}
use lib.ListN.{length}
use Rattle.rules.specs.Lists.{any_of, first_where}
use Rattle.rules.specs.Sets.{most_columns}
use Rattle.rules.specs.Signs.{byte_at, piece, in_name}
use Rattle.rules.specs.Names.{Spot, Run, same_name}
use Rattle.rules.specs.Sheets.{column_named, stands_in}
use Rattle.naming.specs.Words.{is_sign, Skips, Between, Words}
use Rattle.naming.proofs.Runs.{name_no_sign}
use Rattle.naming.proofs.Walks.{between_forward, between_none, skips_between, skips_stops, at_name, some_name, at_end, words_some}
use Rattle.naming.proofs.Walks.{Ahead, ahead_start, ahead_turn, ahead_end}

-- ---- whether it stands among them

-- of the names from a place to another that begins a name: whether this one stands among all of them is whether it stands among those
pub record Among (s : List ℕ) (place at : ℕ) (x : Spot) (names : List Spot) : Type 0 where
  later : List Spot
  between : Between s place at later
  begins : in_name (byte_at s at) ≡ true
  stops : is_sign (byte_at s place) ≡ false
  same : stands_in names x ≡ stands_in later x

-- past the signs it is sought among all of the names
pub among_start : {s : List ℕ} {from place at : ℕ} {x : Spot} {names : List Spot} → Between s from at names → in_name (byte_at s at) ≡ true
    → Skips s from place → Among s place at x names
among_start {s} {from} {place} {at} {x} {names} b e k =
    let f = name_no_sign (byte_at s at) e in
    record { later = names; between = skips_between b f k; begins = e; stops = skips_stops b f k; same = refl }

module _ {s : List ℕ} {place at : ℕ} {x : Spot} {names : List Spot} (among : Among s place at x names) where
  among_nothing : among.later ≡ [] → stands_in names x ≡ false
  unfolding stands_in any_of
  among_nothing e = among.same ∙ rw e

  -- where no name stands it stands among none of them
  pub among_none : in_name (byte_at s place) ≡ false → stands_in names x ≡ false
  among_none e = among_nothing (at_end among.between among.stops e).1

  -- at its own place it stood among none of them
  pub among_end : at ≤ place → stands_in names x ≡ false
  among_end h =
      let e : at ≡ place = omega (arith, between_forward among.between) in
      among_nothing (between_none (rw e at among.between))

  -- where the same name stands it stands among them
  pub among_here : in_name (byte_at s place) ≡ true → place < at → ((r : ℕ) → Run s place r → same_name (piece s place r) x.name ≡ true)
      → stands_in names x ≡ true
  unfolding stands_in any_of
  among_here e h same =
      let f = some_name among.between e (λ g. omega arith) in
      among.same ∙ rw (f.1.same, same f.0 f.1.name.run)

  -- past another name it is sought among those behind that one
  pub among_next : {r next : ℕ} → in_name (byte_at s place) ≡ true → place < at → Run s place r
      → same_name (piece s place r) x.name ≡ false → Skips s r next → Among s next at x names
  unfolding stands_in any_of
  among_next {r} {next} e h run other k =
      let f = at_name among.between e (λ g. omega arith) run in
      let stays = name_no_sign (byte_at s at) among.begins in
      record {
        later = f.later;
        between = skips_between f.between stays k;
        begins = among.begins;
        stops = skips_stops f.between stays k;
        same = among.same ∙ ap (λ (xs : List Spot). stands_in xs x) f.same ∙ rw other;
      }

-- ---- which of them it is

-- a list with nothing in it
pub none_left : {A : Type 0} (xs : List A) → length xs ≡ 0 → xs ≡ []
none_left [] e = refl
none_left (x ∷ xs) e = absurd (omega arith)

-- of the names from a place to the line's end, before which stand so many: the place of this one among all of them is its place among those, and so many
pub record Sought (s : List ℕ) (place q column : ℕ) (name : List ℕ) (columns : List Spot) : Type 0 where
  later : List Spot
  ahead : Ahead s place q later
  many : column + length later ≡ length columns
  finds : column_named columns name ≡ option_map (λ k. column + k) (column_named later name)

-- past the signs it is sought among all of the columns
pub sought_start : {s : List ℕ} {p place q : ℕ} {name : List ℕ} {columns : List Spot} → Words s p q columns → Skips s p place
    → Sought s place q 0 name columns
sought_start {s} {p} {place} {q} {name} {columns} w k =
    record { later = columns; ahead = ahead_start w k; many = omega arith; finds = go (column_named columns name) }
  where
    go : (o : Option ℕ) → o ≡ option_map (λ k. 0 + k) o
    go None = refl
    go (Some k) = rw zero-add

module _ {s : List ℕ} {place q column : ℕ} {name : List ℕ} {columns : List Spot} (sought : Sought s place q column name columns) where
  sought_nothing : sought.later ≡ [] → column_named columns name ≡ None
  unfolding column_named first_where
  sought_nothing e = rw (sought.finds, e)

  -- where no name stands it is no column
  pub sought_none : in_name (byte_at s place) ≡ false → column_named columns name ≡ None
  sought_none e = sought_nothing (ahead_end sought.ahead e).1

  -- when 16 columns are past it is no column
  pub sought_all : most_columns ≤ column → length columns ≤ most_columns → column_named columns name ≡ None
  sought_all h few = sought_nothing (none_left sought.later (omega (arith, sought.many)))

  -- where the same name stands it is that column
  pub sought_here : in_name (byte_at s place) ≡ true → ((r : ℕ) → Run s place r → same_name (piece s place r) name ≡ true)
      → column_named columns name ≡ Some column
  unfolding column_named first_where
  sought_here e same =
      let f = words_some sought.ahead.words e in
      rw (sought.finds, f.1.same, same f.0 f.1.name.run, add-zero)

  -- past another name it is sought among those behind that one
  pub sought_next : {r next : ℕ} → in_name (byte_at s place) ≡ true → Run s place r → same_name (piece s place r) name ≡ false → Skips s r next
      → Sought s next q (column + 1) name columns
  unfolding column_named first_where
  sought_next {r} {next} e run other k =
      let f = ahead_turn sought.ahead e run k in
      record {
        later = f.later;
        ahead = f.ahead;
        many = omega (arith, sought.many, ap (λ (xs : List Spot). length xs) f.same);
        finds = sought.finds ∙ ap (λ (xs : List Spot). option_map (λ k. column + k) (column_named xs name)) f.same ∙ rw other (go (column_named f.later name));
      }
    where
      go : (o : Option ℕ) → option_map (λ k. column + k) (option_map suc o) ≡ option_map (λ k. column + 1 + k) o
      go None = refl
      go (Some k) = let e : column + suc k ≡ column + 1 + k = omega arith in rw e
