-- Laws of where a place of a text is: at its beginning, one byte further, past its end; and where the names, the lines and the end of a text of the form
-- are. Assumes nothing.
use mathlib.Core.Path.{◌≡◌, refl, sym, ap, subst⁻¹, ◌∙◌}
use mathlib.Core.Logic.{◌⊎◌, inl, inr, ⊎_elim}
use mathlib.Core.Bool.{true}
use mathlib.Core.List.Memᴰ
use mathlib.Core.List.{List, [], ◌∷◌, ◌++◌, Memᴰ}
use Prim.Native.Nat.{ℕ, zero, suc, ◌+◌, ◌≤◌, ◌<◌}
use native.Mathlib.Decide.{dec_lt}
use native.Mathlib.Numerals.{add-one}
use native.Mathlib.Omega.{arith}
use lib.Dec.{ltb}
use lib.ListN.{length, take}
use lib.Seq.{take-suc, take_all, take-length}
use borrow.Author.Tests.{ne_eqb, ltb-true, leb-true}
use Rattle.rules.specs.Lists.{every}
use Rattle.rules.specs.Signs.{byte_at, piece, Says, says_all, says_byte, letter, digit, in_name, line_end, forbid_key, need_key}
use Rattle.rules.specs.Names.{Spot, spot, Name, Names, last_name, more_names, name_at}
use Rattle.rules.specs.Phrases.{Formula, names_in, Join, ors, ands, sign_of, join_of, Kind, item, list, rest, operand}
use Rattle.rules.specs.Phrases.{Stands, first, last, next, name, bracketed}
use Rattle.rules.specs.Texts.{Line, Lines, no_line, one_line, Sheet, OfForm}
use Rattle.rules.specs.Sheets.{lines_in}
use Rattle.rules.specs.Positions.{Position, behind, behind_all, position_of}
use Rattle.rules.proofs.Lists.{and_parts, or_one}
use Rattle.rules.proofs.Signs.{inside}
use Rattle.rules.proofs.Names.{name_some, name_run}
use Rattle.rules.proofs.Phrases.{operand_moves, phrase_moves}

-- ---- byte by byte

behind_all_append : (at : Position) (xs ys : List ℕ) → behind_all at (xs ++ ys) ≡ behind_all (behind_all at xs) ys
unfolding behind_all
behind_all_append at [] ys = refl
behind_all_append at (b ∷ xs) ys = behind_all_append (behind at b) xs ys

-- the first byte is at line 1, column 1
pub behind_none : (s : List ℕ) → position_of s 0 ≡ record { line = 1; column = 1 }
unfolding position_of behind_all
behind_none s = refl

-- the next place is behind one byte more
pub behind_more : (s : List ℕ) (place : ℕ) → place < length s → position_of s (place + 1) ≡ behind (position_of s place) (byte_at s place)
unfolding position_of behind_all
behind_more s place h = rw (add-one, take-suc s place 0 h) (behind_all_append _ (take place s) (byte_at s place ∷ []))

-- a place past the end is where the end is
pub behind_end : (s : List ℕ) (place : ℕ) → length s ≤ place → position_of s place ≡ position_of s (length s)
unfolding position_of
behind_end s place h = rw (take_all place s h, take-length s)

-- ---- within a line

module _ (s : List ℕ) where
  -- from place p to place q no line ends
  record Along (p q : ℕ) : Type 0 where
    line : (position_of s q).line ≡ (position_of s p).line
    column : (position_of s q).column + p ≡ (position_of s p).column + q

  along_none : (p : ℕ) → Along p p
  along_none p = record { line = refl; column = refl }

  along_on : {p r q : ℕ} → Along p r → Along r q → Along p q
  along_on a b = record { line = b.line ∙ a.line; column = omega (arith, a.column, b.column) }

  -- every other byte of a text of the form is a greater number than a line's end
  along_byte : (p : ℕ) → line_end < byte_at s p → Along p (p + 1)
  unfolding behind
  along_byte p h =
      let next = behind_more s p (inside s p (λ z. omega arith)) in
      let on : behind (position_of s p) (byte_at s p) ≡ record { line = (position_of s p).line; column = (position_of s p).column + 1 } =
      rw (ne_eqb (byte_at s p) line_end (λ e. omega arith)) in
      let e = next ∙ on in
      record { line = ap (λ (at : Position). at.line) e; column = omega (arith, ap (λ (at : Position). at.column) e) }

  along_run : (p q : ℕ) → p ≤ q → ((i : ℕ) → p ≤ i → i < q → line_end < byte_at s i) → Along p q
  along_run p zero l f = let e : p ≡ 0 = omega arith in rw e (along_none 0)
  along_run p (suc q) l f = go (dec_lt p (suc q)) (along_run p q)
    where
      go : Dec (p < suc q) → (p ≤ q → ((i : ℕ) → p ≤ i → i < q → line_end < byte_at s i) → Along p q) → Along p (suc q)
      go (yes h) before =
          rw (← add-one q) (along_on (before (omega arith) (λ i m n. f i m (omega arith))) (along_byte q (f q (omega arith) (omega arith))))
      go (no n) before = let e : p ≡ suc q = omega arith in rw e (along_none (suc q))

  along_says : {p : ℕ} {key : List ℕ} → Says s p key → every (ltb line_end) key ≡ true → Along p (p + length key)
  unfolding every
  along_says {p} says_all h = let e : p + 0 ≡ p = omega arith in rw e (along_none p)
  along_says {p} (says_byte {b} {bytes} e more) h =
      let parts = and_parts (ltb line_end b) (every (ltb line_end) bytes) h in
      let over : line_end < byte_at s p = rw e (ltb-true line_end b parts.0) in
      let here : Along p (suc p) = rw (add-one p) at (along_byte p over) in
      let far : suc p + length bytes ≡ p + suc (length bytes) = omega arith in
      rw far at (along_on here (along_says more parts.1))

  -- ---- names, phrases

  named_over : (b : ℕ) → in_name b ≡ true → line_end < b
  named_over b e = go (or_one (letter b) (digit b) e)
    where
      go : (letter b ≡ true) ⊎ (digit b ≡ true) → line_end < b
      go (inl h) = omega (arith, leb-true 97 b (and_parts _ _ h).0)
      go (inr h) = omega (arith, leb-true 48 b (and_parts _ _ h).0)

  along_name : {p q : ℕ} → Name s p q → Along p q
  along_name {p} {q} n = along_run p q n.run.forward (λ i l h. named_over (byte_at s i) (n.run.goes_on i l h))

  along_sign : {p sign : ℕ} → byte_at s p ≡ sign → line_end < sign → Along p (p + 1)
  along_sign {p} e h = along_byte p (rw e h)

  along_names : {sign p q : ℕ} {xs : List Spot} → line_end < sign → Names s sign p q xs → Along p q
  along_names h (last_name n e) = along_name n
  along_names h (more_names n e names) = along_on (along_name n) (along_on (along_sign e h) (along_names h names))

  sign_over : (j : Join) → line_end < sign_of j
  sign_over ors = omega arith
  sign_over ands = omega arith

  along_phrase : {kind : Kind} {deep p q : ℕ} {v : Formula} → Stands s kind deep p q v → Along p q
  along_phrase (first a x) = along_on (along_phrase a) (along_phrase x)
  along_phrase (last {q} n) = along_none q
  along_phrase (next {j} e a x) = along_on (along_sign e (sign_over j)) (along_on (along_phrase a) (along_phrase x))
  along_phrase (name n) = along_name n
  along_phrase (bracketed e x f) = along_on (along_sign e (omega arith)) (along_on (along_phrase x) (along_sign f (omega arith)))

  -- ---- each of their names

  -- a name that stands at its place, which is p or comes after it in its line
  record NamedFrom (p : ℕ) (x : Spot) : Type 0 where
    end : ℕ
    name : Name s x.place end
    bytes : x.name ≡ piece s x.place end
    forward : p ≤ x.place
    along : Along p x.place

  named_on : {p r : ℕ} {x : Spot} → p ≤ r → Along p r → NamedFrom r x → NamedFrom p x
  named_on l a n =
      record { end = n.end; name = n.name; bytes = n.bytes; forward = omega (arith, n.forward); along = along_on a n.along }

  named_here : {p q : ℕ} {x : Spot} → Name s p q → x ≡ spot s p q → NamedFrom p x
  named_here {p} {q} n e =
      subst⁻¹ (NamedFrom p) e (record { end = q; name = n; bytes = refl; forward = omega arith; along = along_none p })

  abbrev AllFrom : ℕ → List Spot → Type 0
  AllFrom p xs = (x : Spot) → Memᴰ x xs → NamedFrom p x

  names_from : {sign p q : ℕ} {xs : List Spot} → line_end < sign → Names s sign p q xs → AllFrom p xs
  names_from h (last_name n e) x (Memᴰ.head f) = named_here n f
  names_from h (last_name n e) x (Memᴰ.tail m) = elim m [ ]
  names_from h (more_names n e names) x (Memᴰ.head f) = named_here n f
  names_from h (more_names n e names) x (Memᴰ.tail m) =
      named_on (omega (arith, name_some n)) (along_on (along_name n) (along_sign e h)) (names_from h names x m)

  -- each name of a phrase stands so; of what follows the operands read, if the operands' names do
  abbrev PhraseFrom : Kind → ℕ → Formula → Type 0
  PhraseFrom item p v = AllFrom p (names_in v)
  PhraseFrom (list j) p v = AllFrom p (names_in v)
  PhraseFrom (rest j u) p v = (from : ℕ) → from ≤ p → Along from p → AllFrom from (names_in u) → AllFrom from (names_in v)

  operand_from : (j : Join) (p : ℕ) (v : Formula) → PhraseFrom (operand j) p v → AllFrom p (names_in v)
  operand_from ors p v h = h
  operand_from ands p v h = h

  join_from : (j : Join) {p : ℕ} (u v : Formula) → AllFrom p (names_in u) → AllFrom p (names_in v) → AllFrom p (names_in (join_of j u v))
  unfolding names_in
  join_from ors u v a b x m = ⊎_elim (a x) (b x) (Memᴰ.append_cases (names_in u) m)
  join_from ands u v a b x m = ⊎_elim (a x) (b x) (Memᴰ.append_cases (names_in u) m)

  phrase_from : {kind : Kind} {deep p q : ℕ} {v : Formula} → Stands s kind deep p q v → PhraseFrom kind p v
  unfolding names_in
  phrase_from (first {j} {p} {v} a x) =
      phrase_from x p (omega (arith, operand_moves j (phrase_moves a))) (along_phrase a) (operand_from j p v (phrase_from a))
  phrase_from (last n) = λ from l a h. h
  phrase_from (next {j} {p} {r} {u} {v} e a x) =
      λ from l b h.
      let sign = along_on b (along_sign e (sign_over j)) in
      let forward : from ≤ r = omega (arith, operand_moves j (phrase_moves a)) in
      let later : AllFrom from (names_in v) = λ y m. named_on (omega arith) sign (operand_from j (p + 1) v (phrase_from a) y m) in
      phrase_from x from forward (along_on sign (along_phrase a)) (join_from j u v h later)
  phrase_from (name n) = λ x m. named_here n (Memᴰ.eq_of_singleton m)
  phrase_from (bracketed e x f) = λ y m. named_on (omega arith) (along_sign e (omega arith)) (phrase_from x y m)

  -- ---- line by line

  -- at place p line n begins
  pub record Begins (p n : ℕ) : Type 0 where
    pub line : (position_of s p).line ≡ n
    pub column : (position_of s p).column ≡ 1

  -- a name that stands at its place, which is in line n and not where the line begins
  pub record NamedIn (n : ℕ) (x : Spot) : Type 0 where
    pub end : ℕ
    pub name : Name s x.place end
    pub bytes : x.name ≡ piece s x.place end
    pub line : (position_of s x.place).line ≡ n
    pub column : 1 < (position_of s x.place).column

  -- so it is the name at that place
  pub named_at : {n : ℕ} {x : Spot} → NamedIn n x → name_at s x.place ≡ x.name
  named_at m = name_run m.name.run ∙ sym m.bytes

  named_in : {p r n : ℕ} {x : Spot} → Begins p n → p < r → Along p r → NamedFrom r x → NamedIn n x
  named_in b l a m =
      record {
        end = m.end;
        name = m.name;
        bytes = m.bytes;
        line = m.along.line ∙ a.line ∙ b.line;
        column = omega (arith, m.along.column, a.column, b.column, m.forward);
      }

  -- behind a line's end the next line begins
  line_ends : {p r n : ℕ} → Begins p n → Along p r → byte_at s r ≡ line_end → Begins (r + 1) (n + 1)
  unfolding behind
  line_ends {r} b a e =
      let next = behind_more s r (inside s r (λ z. omega arith)) in
      let on : behind (position_of s r) (byte_at s r) ≡ record { line = (position_of s r).line + 1; column = 1 } = rw e in
      let f = next ∙ on in
      record { line = omega (arith, ap (λ (at : Position). at.line) f, a.line, b.line); column = ap (λ (at : Position). at.column) f }

  -- a line with this key begins at its place; it is line n or a later one, and its names stand in it
  pub record LineFrom {A : Type 0} (key : List ℕ) (names_at : A → List Spot) (n : ℕ) (l : Line A) : Type 0 where
    pub number : ℕ
    pub late : n ≤ number
    pub begins : Begins l.place number
    pub said : Says s l.place key
    pub names : (x : Spot) → Memᴰ x (names_at l.value) → NamedIn number x

  module _ {A : Type 0} {key : List ℕ} {Value : ℕ → ℕ → A → Type 0} (over : every (ltb line_end) key ≡ true)
      (along : (p q : ℕ) (a : A) → Value p q a → Along p q) where
    lines_end : {p q n : ℕ} {lines : List (Line A)} → Begins p n → Lines s key Value p q lines → Begins q (n + length lines)
    lines_end {n} b (no_line h) = let e : n + 0 ≡ n = omega arith in rw e b
    lines_end {n} b (one_line {lines} k v e more) =
        let next = line_ends b (along_on (along_says k over) (along _ _ _ v)) e in
        let far : n + 1 + length lines ≡ n + suc (length lines) = omega arith in
        rw far at (lines_end next more)

    module _ (names_at : A → List Spot) (some : 0 < length key) (from : (p q : ℕ) (a : A) → Value p q a → AllFrom p (names_at a)) where
      lines_from : {p q n : ℕ} {lines : List (Line A)} → Begins p n → Lines s key Value p q lines → (l : Line A) → Memᴰ l lines
          → LineFrom key names_at n l
      lines_from {n} b (one_line k v e more) l (Memᴰ.head f) =
          subst⁻¹ (LineFrom key names_at n) f
          (record {
            number = n;
            late = omega arith;
            begins = b;
            said = k;
            names = λ x m. named_in b (omega arith) (along_says k over) (from _ _ _ v x m);
          })
      lines_from b (one_line k v e more) l (Memᴰ.tail m) =
          let next = lines_from (line_ends b (along_on (along_says k over) (along _ _ _ v)) e) more l m in
          record { number = next.number; late = omega (arith, next.late); begins = next.begins; said = next.said; names = next.names }
      lines_from {n = n} b (no_line {p = p} _) l m = elim m [ ]

-- ---- in a text of the form

module _ {s : List ℕ} {sheet : Sheet} (form : OfForm s sheet) where
  first_begins : Begins s 0 1
  first_begins =
      let first = behind_none s in
      record { line = ap (λ (at : Position). at.line) first; column = ap (λ (at : Position). at.column) first }

  -- behind the columns line the second line begins
  second_begins : Begins s (form.columns_to + 1) 2
  unfolding every
  second_begins =
      line_ends s first_begins (along_on s (along_says s form.columns_said refl) (along_names s (omega arith) form.columns)) form.columns_end

  -- behind the forbid lines the first need line, or the end line
  needs_begin : Begins s form.needs_from (2 + length sheet.forbids)
  unfolding every
  needs_begin = lines_end s refl (λ p q a. along_names s (omega arith)) second_begins form.forbids

  -- the end line begins behind the columns line, the forbid lines and the need lines
  end_begins : Begins s form.end_from (lines_in sheet + 2)
  unfolding every
  end_begins =
      let needs = lines_end s refl (λ p q a. along_phrase s) needs_begin form.needs in
      let e : 2 + length sheet.forbids + length sheet.needs ≡ lines_in sheet + 2 = omega arith in
      rw e at needs

  -- the columns stand in the first line
  pub column_stands : {x : Spot} → Memᴰ x sheet.columns → NamedIn s 1 x
  unfolding every
  column_stands {x} m = named_in s first_begins (omega arith) (along_says s form.columns_said refl) (names_from s (omega arith) form.columns x m)

  -- a forbid line begins at its place, and its names stand in it
  pub forbid_stands : {l : Line (List Spot)} → Memᴰ l sheet.forbids → LineFrom s forbid_key (λ (v : List Spot). v) 2 l
  unfolding every
  forbid_stands {l} m =
      lines_from s refl (λ p q a. along_names s (omega arith)) (λ v. v) (omega arith) (λ p q a. names_from s (omega arith)) second_begins form.forbids l m

  -- so does a need line
  pub need_stands : {l : Line Formula} → Memᴰ l sheet.needs → LineFrom s need_key names_in 2 l
  unfolding every
  need_stands {l} m =
      let late = lines_from s refl (λ p q a. along_phrase s) names_in (omega arith) (λ p q a. phrase_from s) needs_begin form.needs l m in
      record { number = late.number; late = omega (arith, late.late); begins = late.begins; said = late.said; names = late.names }

-- the number of the end line stands behind `end=`, so its first digit is the fifth byte of its line
pub end_column : (s : List ℕ) (sheet : Sheet) → OfForm s sheet → (position_of s sheet.ended.place).column ≡ 5
unfolding every
end_column s sheet form = rw form.ended (omega (arith, (along_says s form.end_said refl).column, (end_begins form).column))
