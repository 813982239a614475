-- A phrase stands in a text in one way, and moves on. Assumes nothing.
use mathlib.Core.Path.{◌≡◌, refl, ap, subst⁻¹}
use mathlib.Core.List.{List}
use Prim.Native.Nat.{ℕ, ◌+◌, ◌<◌, ◌≤◌}
use native.Mathlib.Omega.{arith}
use borrow.Author.Tests.{leb-true}
use Rattle.rules.specs.Signs.{byte_at, bracket_open}
use Rattle.rules.specs.Names.{Name, spot}
use Rattle.rules.specs.Phrases.{Formula, named, Join, ors, ands, join_of, Kind, item, list, rest, operand}
use Rattle.rules.specs.Phrases.{Stands, first, last, next, name, bracketed}
use Rattle.rules.proofs.Lists.{and_parts}
use Rattle.rules.proofs.Names.{run_unique, name_some}

-- ---- one way

-- no name begins with a bracket
pub name_or_bracket : {s : List ℕ} {p q : ℕ} → Name s p q → byte_at s p ≡ bracket_open → ⊥
name_or_bracket {s} {p} a e = let l = leb-true 97 (byte_at s p) (and_parts _ _ a.begins).0 in omega arith

-- from one place a phrase of one kind goes to one place only and says one thing, whatever brackets are allowed
pub phrase_unique : {s : List ℕ} {kind : Kind} {deep deep' p q q' : ℕ} {v v' : Formula} → Stands s kind deep p q v → Stands s kind deep' p q' v'
    → (q ≡ q') × (v ≡ v')
phrase_unique {s} (first {j} {r} a x) (first {deep} {q} {v = v'} {w} b y) =
    let t = phrase_unique a b in
    phrase_unique x
    (subst⁻¹ (λ (u : Formula). Stands s (rest j u) deep r q w) t.1 (subst⁻¹ (λ (k : ℕ). Stands s (rest j v') deep k q w) t.0 y))
phrase_unique (last n) (last m) = (refl, refl)
phrase_unique (last n) (next f b y) = absurd (n f)
phrase_unique (next e a x) (last m) = absurd (m e)
phrase_unique {s} (next {j} {r} {u} e a x) (next {deep} {q} {v = v'} {w} f b y) =
    let t = phrase_unique a b in
    phrase_unique x
    (subst⁻¹ (λ (v : Formula). Stands s (rest j (join_of j u v)) deep r q w) t.1
    (subst⁻¹ (λ (k : ℕ). Stands s (rest j (join_of j u v')) deep k q w) t.0 y))
phrase_unique {s} {p} (name a) (name b) =
    let e = run_unique a.run b.run in (e, ap (λ (q : ℕ). named (spot s p q)) e)
phrase_unique (name a) (bracketed e y f) = absurd (name_or_bracket a e)
phrase_unique (bracketed e x f) (name b) = absurd (name_or_bracket b e)
phrase_unique (bracketed e x f) (bracketed g y h) = let t = phrase_unique x y in (ap (λ (q : ℕ). q + 1) t.0, t.1)

-- ---- forward, within the text

-- an item or a list goes on by a byte or more, what follows the operands read can be empty
abbrev pub Moves : Kind → ℕ → ℕ → Type 0
Moves item p q = p < q
Moves (list j) p q = p < q
Moves (rest j v) p q = p ≤ q

-- what moves as an operand does goes on by a byte or more
pub operand_moves : (j : Join) {p q : ℕ} → Moves (operand j) p q → p < q
operand_moves ors l = l
operand_moves ands l = l

-- a phrase moves on
pub phrase_moves : {s : List ℕ} {kind : Kind} {deep p q : ℕ} {v : Formula} → Stands s kind deep p q v → Moves kind p q
phrase_moves (first {j} a x) = let l = operand_moves j (phrase_moves a) in omega (arith, phrase_moves x)
phrase_moves (last n) = omega arith
phrase_moves (next {j} e a x) = let l = operand_moves j (phrase_moves a) in omega (arith, phrase_moves x)
phrase_moves (name a) = name_some a
phrase_moves (bracketed e x f) = let l = phrase_moves x in omega arith
