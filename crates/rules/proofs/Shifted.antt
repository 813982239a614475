-- What stands in a text stands as well where its bytes are shifted behind others, and says the same names. Assumes nothing.
use mathlib.Core.Path.{◌≡◌, refl, sym, ap, ap₂, ◌∙◌}
use mathlib.Core.List.{List, [], ◌∷◌, ◌++◌, map, map-append}
use Prim.Native.Nat.{ℕ, suc, ◌+◌, ◌-◌, ◌^◌}
use native.Mathlib.Nat.{add-suc, add_assoc}
use native.Mathlib.Omega.{arith}
use lib.ListN.{length, take}
use lib.Seq.{get_or-append-add, drop-append-add}
use Rattle.rules.specs.Lists.{first_where}
use Rattle.rules.specs.Sets.{union}
use Rattle.rules.specs.Signs.{byte_at, piece, Says, says_all, says_byte, plus, forbid_key, need_key}
use Rattle.rules.specs.Names.{Run, Name, Spot, spot, Names, last_name, more_names}
use Rattle.rules.specs.Phrases.{Formula, named, and_of, or_of, names_in, ors, ands, Kind, item, list, rest, most_brackets}
use Rattle.rules.specs.Phrases.{Stands, first, last, next, name, bracketed}
use Rattle.rules.specs.Texts.{Line, line, Lines, no_line, one_line, Number, one_digit, two_digits}
use Rattle.rules.specs.Sheets.{column_named, column_in, set_with, need_in, marks_in}
use Rattle.rules.proofs.Signs.{says_first}

-- ---- the same n places further on

abbrev pub shifted_spot : ℕ → Spot → Spot
shifted_spot n x = record { place = n + x.place; name = x.name }

unfoldable pub shifted_formula : ℕ → Formula → Formula
shifted_formula n (named x) = named (shifted_spot n x)
shifted_formula n (and_of v w) = and_of (shifted_formula n v) (shifted_formula n w)
shifted_formula n (or_of v w) = or_of (shifted_formula n v) (shifted_formula n w)

abbrev pub shifted_kind : ℕ → Kind → Kind
shifted_kind n item = item
shifted_kind n (list j) = list j
shifted_kind n (rest j v) = rest j (shifted_formula n v)

-- a line whose value shifts in its own way
abbrev pub shifted_line : {A : Type 0} → ℕ → (A → A) → Line A → Line A
shifted_line n shifted l = line (n + l.place) (shifted l.value)

-- ---- behind other bytes: what stands from place p of a text on stands from place `length before + p` on

module _ (before s : List ℕ) where
  pub byte_shifted : (p : ℕ) → byte_at (before ++ s) (length before + p) ≡ byte_at s p
  byte_shifted p = get_or-append-add before s p 0

  pub piece_shifted : (p q : ℕ) → piece (before ++ s) (length before + p) (length before + q) ≡ piece s p q
  piece_shifted p q =
      let e : length before + q - (length before + p) ≡ q - p = omega arith in
      ap₂ (λ (k : ℕ) (bytes : List ℕ). take k bytes) e (drop-append-add before s p)

  spot_shifted : (p q : ℕ) → spot (before ++ s) (length before + p) (length before + q) ≡ shifted_spot (length before) (spot s p q)
  spot_shifted p q = ap (λ (bytes : List ℕ). record { place = length before + p; name = bytes }) (piece_shifted p q)

  pub says_shifted : {p : ℕ} {bytes : List ℕ} → Says s p bytes → Says (before ++ s) (length before + p) bytes
  says_shifted says_all = says_all
  says_shifted (says_byte {p} e more) = says_byte (byte_shifted p ∙ e) (rw add-suc at (says_shifted more))

  -- and only what stands in the text stands there
  pub says_unshifted : (p : ℕ) (bytes : List ℕ) → Says (before ++ s) (length before + p) bytes → Says s p bytes
  says_unshifted p [] h = says_all
  says_unshifted p (b ∷ bytes) h =
      let more = says_first h in
      says_byte (sym (byte_shifted p) ∙ more.0) (says_unshifted (suc p) bytes (rw add-suc more.1))

  pub run_shifted : {p q : ℕ} → Run s p q → Run (before ++ s) (length before + p) (length before + q)
  run_shifted r =
      record {
        forward = omega arith;
        goes_on = λ i l h.
            let e : i ≡ length before + (i - length before) = omega arith in
            rw (e, byte_shifted) (r.goes_on (i - length before) (omega arith) (omega arith));
        ends = rw byte_shifted r.ends;
      }

  pub name_shifted : {p q : ℕ} → Name s p q → Name (before ++ s) (length before + p) (length before + q)
  name_shifted n = record { begins = rw byte_shifted n.begins; run = run_shifted n.run; short = omega arith }

  pub names_shifted : {sign p q : ℕ} {spots : List Spot} → Names s sign p q spots
      → Names (before ++ s) sign (length before + p) (length before + q) (map (shifted_spot (length before)) spots)
  names_shifted (last_name {q} n e) = rw spot_shifted at (last_name (name_shifted n) (λ h. e (sym (byte_shifted q) ∙ h)))
  names_shifted (more_names {r} n e more) =
      rw spot_shifted at (more_names (name_shifted n) (byte_shifted r ∙ e) (rw (← add_assoc) at (names_shifted more)))

  pub phrase_shifted : {kind : Kind} {deep p q : ℕ} {v : Formula} → Stands s kind deep p q v
      → Stands (before ++ s) (shifted_kind (length before) kind) deep (length before + p) (length before + q) (shifted_formula (length before) v)
  unfolding shifted_formula
  phrase_shifted (first {j = ors} a x) = first (phrase_shifted a) (phrase_shifted x)
  phrase_shifted (first {j = ands} a x) = first (phrase_shifted a) (phrase_shifted x)
  phrase_shifted (last {q} n) = last (λ h. n (sym (byte_shifted q) ∙ h))
  phrase_shifted (next {j = ors} {p} e a x) = next (byte_shifted p ∙ e) (rw (← add_assoc) at (phrase_shifted a)) (phrase_shifted x)
  phrase_shifted (next {j = ands} {p} e a x) = next (byte_shifted p ∙ e) (rw (← add_assoc) at (phrase_shifted a)) (phrase_shifted x)
  phrase_shifted (name {p} {q} n) = rw (← spot_shifted p q) (name (name_shifted n))
  phrase_shifted (bracketed {p} {q} e x f) =
      rw add_assoc at (bracketed (byte_shifted p ∙ e) (rw (← add_assoc) at (phrase_shifted x)) (byte_shifted q ∙ f))

  pub number_shifted : {p q n : ℕ} → Number s p q n → Number (before ++ s) (length before + p) (length before + q) n
  number_shifted (one_digit {p} d) = simp (← byte_shifted, ← add_assoc) (one_digit {p = length before + p} (rw byte_shifted d))
  number_shifted (two_digits {p} d z c) =
      simp (← byte_shifted, ← add_assoc)
      (two_digits {p = length before + p} (rw byte_shifted d) (λ h. z (sym (byte_shifted p) ∙ h)) (rw (add_assoc, byte_shifted) c))

  -- lines stand there if the values in them do
  module _ {A : Type 0} {key : List ℕ} {Value Value' : ℕ → ℕ → A → Type 0} (shifted : A → A)
      (values : (p q : ℕ) (a : A) → Value p q a → Value' (length before + p) (length before + q) (shifted a)) where
    pub lines_shifted : {p q : ℕ} {lines : List (Line A)} → Lines s key Value p q lines
        → Lines (before ++ s) key Value' (length before + p) (length before + q) (map (shifted_line (length before) shifted) lines)
    lines_shifted (no_line {p} n) = no_line (λ h. n (says_unshifted p key h))
    lines_shifted (one_line {r} h v e x) =
        one_line (says_shifted h) (rw (← add_assoc) at (values _ _ _ v)) (byte_shifted r ∙ e) (rw (← add_assoc) at (lines_shifted x))

  pub forbids_shifted : {p q : ℕ} {lines : List (Line (List Spot))} → Lines s forbid_key (Names s plus) p q lines
      → Lines (before ++ s) forbid_key (Names (before ++ s) plus) (length before + p) (length before + q)
      (map (shifted_line (length before) (map (shifted_spot (length before)))) lines)
  forbids_shifted = lines_shifted (map (shifted_spot (length before))) (λ p q a. names_shifted)

  pub needs_shifted : {p q : ℕ} {lines : List (Line Formula)} → Lines s need_key (Stands s (list ors) most_brackets) p q lines
      → Lines (before ++ s) need_key (Stands (before ++ s) (list ors) most_brackets) (length before + p) (length before + q)
      (map (shifted_line (length before) (shifted_formula (length before))) lines)
  needs_shifted = lines_shifted (shifted_formula (length before)) (λ p q a. phrase_shifted)

-- ---- a job is made of names and not of places: what is shifted comes to the same

module _ (n : ℕ) where
  pub names_in_shifted : (v : Formula) → names_in (shifted_formula n v) ≡ map (shifted_spot n) (names_in v)
  unfolding names_in shifted_formula
  names_in_shifted (named x) = refl
  names_in_shifted (and_of v w) = simp (map-append, names_in_shifted v, names_in_shifted w)
  names_in_shifted (or_of v w) = simp (map-append, names_in_shifted v, names_in_shifted w)

  pub column_named_shifted : (columns : List Spot) (word : List ℕ) → column_named (map (shifted_spot n) columns) word ≡ column_named columns word
  unfolding column_named first_where
  column_named_shifted [] word = refl
  column_named_shifted (c ∷ columns) word = rw (column_named_shifted columns word)

  module _ (columns : List Spot) where
    pub set_shifted : (t : ℕ) (names : List Spot) → set_with columns t (map (shifted_spot n) names) ≡ set_with columns t names
    unfolding set_with column_in
    set_shifted t [] = refl
    set_shifted t (x ∷ names) = set_shifted (union t (2 ^ column_in columns x)) names

    pub need_shifted : (v : Formula) → need_in columns (shifted_formula n v) ≡ need_in columns v
    unfolding need_in shifted_formula column_in
    need_shifted (named x) = refl
    need_shifted (and_of v w) = cc (need_shifted v, need_shifted w)
    need_shifted (or_of v w) = cc (need_shifted v, need_shifted w)

    pub marks_shifted : (v : Formula) → marks_in columns (shifted_formula n v) ≡ marks_in columns v
    unfolding marks_in shifted_formula column_in
    marks_shifted (named x) = refl
    marks_shifted (and_of v w) = cc (marks_shifted v, marks_shifted w)
    marks_shifted (or_of v w) = cc (marks_shifted v, marks_shifted w)
