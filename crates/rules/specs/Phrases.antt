-- The value of a need line. "An or-list: and-lists joined by |; an and-list is items joined by &; an item is a name or a bracketed or-list. An
-- or-list reaches itself again through an item. Joins of one kind group from the left." "Brackets nested at most 8."
use Rattle.std.specs.Prelude.{◌≡◌, List, [], ◌∷◌, ◌++◌, ℕ, suc, ◌+◌}
use Rattle.rules.specs.Signs.{byte_at, ampersand, bar, bracket_open, bracket_close}
use Rattle.rules.specs.Names.{Spot, spot, Name}

abbrev pub most_brackets : ℕ
most_brackets = 8

-- what a need line says: names joined by and, or
pub data Formula : Type 0 where
  named : Spot → Formula
  and_of : Formula → Formula → Formula
  or_of : Formula → Formula → Formula

-- the names of a formula, in the order of the text
unfoldable pub names_in : Formula → List Spot
names_in (named x) = x ∷ []
names_in (and_of v w) = names_in v ++ names_in w
names_in (or_of v w) = names_in v ++ names_in w

-- the two kinds of list
pub data Join : Type 0 where
  ors ands : Join

abbrev pub sign_of : Join → ℕ
sign_of ors = bar
sign_of ands = ampersand

abbrev pub join_of : Join → Formula → Formula → Formula
join_of ors = or_of
join_of ands = and_of

-- what can stand at a place: an item, a list, or what follows the operands of a list that are read, which say v
pub data Kind : Type 0 where
  item : Kind
  list : Join → Kind
  rest : Join → Formula → Kind

-- what a list joins
abbrev pub operand : Join → Kind
operand ors = list ands
operand ands = item

-- Stands s kind deep p q v: a phrase of this kind that says v stands from place p to before place q, with at most so many brackets open at once
pub data Stands (s : List ℕ) : Kind → ℕ → ℕ → ℕ → Formula → Type 0 where
  first : {j : Join} {deep p r q : ℕ} {v w : Formula} → Stands s (operand j) deep p r v → Stands s (rest j v) deep r q w → Stands s (list j) deep p q w
  last : {j : Join} {deep q : ℕ} {v : Formula} → (byte_at s q ≡ sign_of j → ⊥) → Stands s (rest j v) deep q q v
  next : {j : Join} {deep p r q : ℕ} {u v w : Formula} → byte_at s p ≡ sign_of j → Stands s (operand j) deep (p + 1) r v
      → Stands s (rest j (join_of j u v)) deep r q w → Stands s (rest j u) deep p q w
  name : {deep p q : ℕ} → Name s p q → Stands s item deep p q (named (spot s p q))
  bracketed : {deep p q : ℕ} {v : Formula} → byte_at s p ≡ bracket_open → Stands s (list ors) deep (p + 1) q v → byte_at s q ≡ bracket_close
      → Stands s item (suc deep) p (q + 1) v
