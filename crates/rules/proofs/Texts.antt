-- A text of the form says one thing, and a text that is not of the form stops at one place. Assumes nothing.
use mathlib.Core.Path.{◌≡◌, refl, sym, ap, ap₂, subst⁻¹, ◌∙◌}
use mathlib.Core.Bool.{true}
use mathlib.Core.List.{List, ◌∷◌}
use Prim.Native.Nat.{ℕ, suc, ◌+◌, ◌<◌}
use native.Mathlib.Decide.{dec_lt}
use native.Mathlib.Omega.{arith}
use borrow.Author.Tests.{leb-true}
use lib.ListN.{length}
use Rattle.rules.specs.Signs.{byte_at, digit, line_end, plus, forbid_key, need_key, end_key}
use Rattle.rules.specs.Names.{Spot, Names}
use Rattle.rules.specs.Phrases.{Formula, ors, list, most_brackets, Stands}
use Rattle.rules.specs.Texts.{Line, line, Lines, no_line, one_line, Number, one_digit, two_digits, Sheet, OfForm, StopsAt}
use Rattle.rules.proofs.Lists.{and_parts}
use Rattle.rules.proofs.Names.{names_unique}
use Rattle.rules.proofs.Phrases.{phrase_unique}

-- ---- lines

module _ {A : Type 0} {s key : List ℕ} {Value : ℕ → ℕ → A → Type 0}
    (unique : (p q q' : ℕ) (a b : A) → Value p q a → Value p q' b → (q ≡ q') × (a ≡ b)) where
  -- lines whose values stand in one way go from one place to one place only and are the same lines
  pub lines_unique : {p q q' : ℕ} {xs ys : List (Line A)} → Lines s key Value p q xs → Lines s key Value p q' ys → (q ≡ q') × (xs ≡ ys)
  lines_unique (no_line n) (no_line m) = (refl, refl)
  lines_unique (no_line n) (one_line k b f y) = absurd (n k)
  lines_unique (one_line h a e x) (no_line m) = absurd (m h)
  lines_unique {p} (one_line h a e x) (one_line {q} {lines} k b f y) =
      let u = unique _ _ _ _ _ a b in
      let t = lines_unique x (subst⁻¹ (λ (r : ℕ). Lines s key Value (r + 1) q lines) u.0 y) in
      (t.0, ap₂ (λ (c : A) (zs : List (Line A)). line p c ∷ zs) u.1 t.1)

-- ---- the number

-- no digit ends a line
pub digit_or_end : (b : ℕ) → digit b ≡ true → b ≡ line_end → ⊥
digit_or_end b d e = let l = leb-true 48 b (and_parts _ _ d).0 in omega arith

-- from one place a number that ends its line goes to one place only and is one number
pub number_unique : {s : List ℕ} {p q q' n n' : ℕ} → Number s p q n → byte_at s q ≡ line_end → Number s p q' n' → byte_at s q' ≡ line_end
    → (q ≡ q') × (n ≡ n')
number_unique (one_digit d) e (one_digit d') f = (refl, refl)
number_unique (one_digit d) e (two_digits d' z' c') f = absurd (digit_or_end _ c' e)
number_unique (two_digits d z c) e (one_digit d') f = absurd (digit_or_end _ c f)
number_unique (two_digits d z c) e (two_digits d' z' c') f = (refl, refl)

-- ---- the whole text

-- sheets that agree in all they hold are the same
sheet_parts : (a b : Sheet) → a.columns ≡ b.columns → a.forbids ≡ b.forbids → a.needs ≡ b.needs → a.ended.place ≡ b.ended.place
    → a.ended.value ≡ b.ended.value → a ≡ b
sheet_parts a b c f n p v = go
  where
    made : List Spot → List (Line (List Spot)) → List (Line Formula) → ℕ → ℕ → Sheet
    made columns forbids needs place value = record { columns = columns; forbids = forbids; needs = needs; ended = line place value }

    go : made a.columns a.forbids a.needs a.ended.place a.ended.value
        ≡ made b.columns b.forbids b.needs b.ended.place b.ended.value
    go = cc

-- a text of the form says one thing
pub sheet_unique : {s : List ℕ} {a b : Sheet} → OfForm s a → OfForm s b → a ≡ b
sheet_unique {s} {a} {b} f g =
    let c = names_unique f.columns g.columns in
    let forbids = subst⁻¹ (λ (k : ℕ). Lines s forbid_key (Names s plus) (k + 1) g.needs_from b.forbids) c.0 g.forbids in
    let d = lines_unique (λ p q q' x y. names_unique) f.forbids forbids in
    let needs = subst⁻¹ (λ (k : ℕ). Lines s need_key (Stands s (list ors) most_brackets) k g.end_from b.needs) d.0 g.needs in
    let n = lines_unique (λ p q q' x y. phrase_unique) f.needs needs in
    let number = subst⁻¹ (λ (k : ℕ). Number s (k + length end_key) g.number_to b.ended.value) n.0 g.number in
    let v = number_unique f.number f.number_end number g.number_end in
    sheet_parts a b c.1 d.1 n.1 (f.ended ∙ ap (λ (k : ℕ). k + length end_key) n.0 ∙ sym g.ended) v.1

-- a text that is not of the form stops at one place
pub stops_unique : {s : List ℕ} {p q : ℕ} → StopsAt s p → StopsAt s q → p ≡ q
stops_unique {s} {p} {q} a b = go (dec_lt p q) (dec_lt q p)
  where
    earlier : {i j : ℕ} → StopsAt s i → StopsAt s j → i < j → ⊥
    earlier {i} x y l = let w = y.within in x.after (omega arith) (y.before (suc i) l)

    go : Dec (p < q) → Dec (q < p) → p ≡ q
    go (yes l) d = absurd (earlier a b l)
    go (no n) (yes l) = absurd (earlier b a l)
    go (no n) (no m) = omega arith
