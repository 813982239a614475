-- The names of a phrase, and names joined by one sign, as a walk meets them. Assumes nothing.
use mathlib.Core.Path.{◌≡◌, refl, sym, ◌∙◌}
use mathlib.Core.Bool.{true}
use mathlib.Core.List.{List, [], ◌++◌, append-nil, append_assoc}
use Prim.Native.Nat.{ℕ, ◌+◌}
use Rattle.rules.specs.Names.{Spot, Names, last_name, more_names}
use Rattle.rules.specs.Phrases.{Formula, names_in, Join, ors, ands, sign_of, join_of, Kind, item, list, rest, operand}
use Rattle.rules.specs.Phrases.{Stands, first, last, next, name, bracketed}
use Rattle.naming.specs.Words.{is_sign, Between, nothing, sign, word}
use Rattle.naming.proofs.Walks.{between_append}

-- names joined by a sign are names with signs between them
pub names_between : {s : List ℕ} {joint p q : ℕ} {xs : List Spot} → Names s joint p q xs → is_sign joint ≡ true → Between s p q xs
names_between (last_name n f) e = word n nothing
names_between {s} (more_names {r} n f names) e = word n (sign {p = r} (rw f e) (names_between names e))

-- what is met from place p to place q by reading what can stand there: the names of the formula, or those that come to the ones that are read
abbrev Meets : List ℕ → Kind → ℕ → ℕ → Formula → Type 0
Meets s item p q v = Between s p q (names_in v)
Meets s (list j) p q v = Between s p q (names_in v)
Meets s (rest j u) p q v = (xs : List Spot) × (names_in v ≡ names_in u ++ xs) × Between s p q xs

operand_meets : (s : List ℕ) (j : Join) (p q : ℕ) (v : Formula) → Meets s (operand j) p q v → Between s p q (names_in v)
operand_meets s ors p q v b = b
operand_meets s ands p q v b = b

join_names : (j : Join) (u v : Formula) → names_in (join_of j u v) ≡ names_in u ++ names_in v
unfolding names_in
join_names ors u v = refl
join_names ands u v = refl

join_sign : (j : Join) → is_sign (sign_of j) ≡ true
join_sign ors = refl
join_sign ands = refl

stands_meets : (s : List ℕ) (k : Kind) (deep p q : ℕ) (v : Formula) → Stands s k deep p q v → Meets s k p q v
unfolding names_in
stands_meets s k deep p q w (first {j} {r} {v} a b) =
    let m = stands_meets s (rest j v) deep r q w b in
    rw m.1 (between_append (operand_meets s j p r v (stands_meets s (operand j) deep p r v a)) m.2)
stands_meets s k deep p q v (last n) = ([], sym (append-nil (names_in v)), nothing)
stands_meets s k deep p q w (next {j} {r} {u} {v} e a b) =
    let m = stands_meets s (rest j (join_of j u v)) deep r q w b in
    let o = operand_meets s j (p + 1) r v (stands_meets s (operand j) deep (p + 1) r v a) in (
      names_in v ++ m.0,
      m.1 ∙ rw (join_names j u v) (append_assoc (names_in u) (names_in v) m.0),
      sign {p = p} (rw e (join_sign j)) (between_append o m.2),
    )
stands_meets s k deep p q v (name n) = word n nothing
stands_meets s k deep p q v (bracketed {deep = d} {q = r} e a f) =
    let b : Between s r (r + 1) [] = sign {p = r} (rw f) nothing in
    sign {p = p} (rw e) (rw (append-nil (names_in v)) at (between_append (stands_meets s (list ors) d (p + 1) r v a) b))

-- the names of a phrase are names with signs between them
pub phrase_between : {s : List ℕ} {j : Join} {deep p q : ℕ} {v : Formula} → Stands s (list j) deep p q v → Between s p q (names_in v)
phrase_between {s} {j} {deep} {p} {q} {v} a = stands_meets s (list j) deep p q v a
