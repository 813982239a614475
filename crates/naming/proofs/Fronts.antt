-- The bytes from a place on as far as they pass a test. Assumes nothing.
use mathlib.Core.Path.{◌≡◌, refl, sym, ap, ◌∙◌}
use mathlib.Core.Bool.{Bool, true, false, cond, not, true≢false}
use mathlib.Core.List.{List, [], ◌∷◌}
use Prim.Native.Nat.{ℕ, ◌+◌, ◌-◌, ◌<◌, ◌≤◌}
use native.Mathlib.Decide.{dec_lt}
use native.Mathlib.Numerals.{one-add}
use native.Mathlib.Omega.{arith}
use lib.Dec.{eqb}
use lib.ListN.{length, take, drop, length-drop, get_or-eq_default}
use lib.Seq.{get_or-drop}
use borrow.Author.Tests.{eqb-true}
use denote.Param.Members.{Mut}
use denote.Ref.{Bor}
use Rattle.std.specs.declared.iter.TakeWhile.{TakeWhile}
use Rattle.std.specs.Fn.{CalledAt}
use Rattle.std.specs.Iterator.{Drains}
use Rattle.std.specs.Iterator.Adapters.{take_while_source, take_while_done, take_while_callee, take_while_steps}
use Rattle.std.specs.List.{prefix_len}
use Rattle.std.proofs.lemmas.Iterator.{YieldsList}
use Rattle.std.proofs.lemmas.Iterator.Consumers.{count_from_yields_List}
use Rattle.std.proofs.lemmas.Iterator.Search.{YieldsList-from_take_while}
use Rattle.rules.specs.Options.{Option}
use Rattle.std.specs.Cmp.Lexicographic.{pointwise}
use Rattle.std.proofs.lemmas.Bool.{not-false}
use Rattle.std.proofs.lemmas.List.Folds.{length-prefix_len}
use Rattle.std.proofs.lemmas.List.Sums.{prefix_len-le-length, prefix_len_passes, prefix_len_stops}
use Rattle.rules.specs.Signs.{byte_at, in_name, line_end}
use Rattle.rules.specs.Names.{Run, beginning, name_at, same_name}
use Rattle.naming.specs.Words.{is_sign, Skips, Ends}

-- what `take_while` and `count` say of a list
pub counted_while : {S A F : Type 0} {steps : S → Option A → S → Type 0} {v : A → ℕ} {s : TakeWhile S F} (g : Mut F (Bor A × Unit {0}) Bool)
    (test : ℕ → Bool) {f : F} (rest : List ℕ) (r : ℕ) → ((xs : List A) × Drains (take_while_steps steps g) s xs × (r ≡ length xs))
    → YieldsList steps v (take_while_source s) rest → take_while_callee s ≡ f → take_while_done s ≡ false
    → ((x : A) (b : Bool) (q : F) → CalledAt g f x b q → (q ≡ f) × (b ≡ test (v x))) → r ≡ prefix_len test rest
counted_while {s} g test rest r ran yields callee done calls =
    count_from_yields_List s r ran (YieldsList-from_take_while g test yields callee done calls) ∙ length-prefix_len test rest

module _ (test : ℕ → Bool) (s : List ℕ) (p : ℕ) where
  -- so many of them pass
  abbrev pub so_many : ℕ
  so_many = prefix_len test (drop p s)

  pub front_inside : p ≤ length s → p + so_many ≤ length s
  front_inside h = omega (arith, prefix_len-le-length test (drop p s), length-drop p s)

  pub front_passes : (i : ℕ) → p ≤ i → i < p + so_many → test (byte_at s i) ≡ true
  front_passes i l h =
      let e : p + (i - p) ≡ i = omega arith in
      ap (λ (k : ℕ). test (byte_at s k)) (sym e) ∙ ap test (sym (get_or-drop p s (i - p) 0))
      ∙ prefix_len_passes test (drop p s) (i - p) 0 (omega arith)

  pub front_stops : p + so_many < length s → test (byte_at s (p + so_many)) ≡ false
  front_stops h = ap test (sym (get_or-drop p s so_many 0)) ∙ prefix_len_stops test (drop p s) 0 (omega (arith, length-drop p s))

-- ---- letters and digits

-- the rules' word for the letters and digits that a list begins with is the library's
beginning_front : (s : List ℕ) → beginning s ≡ take (prefix_len in_name s) s
unfolding beginning
beginning_front [] = refl
beginning_front (b ∷ s) = go (in_name b) (beginning_front s)
  where
    go : (t : Bool) → beginning s ≡ take (prefix_len in_name s) s
        → cond t (b ∷ beginning s) [] ≡ take (cond t (1 + prefix_len in_name s) 0) (b ∷ s)
    go true e = rw (e, one-add)
    go false e = refl

-- a byte that ends no line
abbrev pub goes_on : ℕ → Bool
goes_on b = not (eqb b line_end)

module _ (s : List ℕ) (p : ℕ) where
  pub name_front : name_at s p ≡ take (so_many in_name s p) (drop p s)
  name_front = beginning_front (drop p s)

  pub length-name_at : length (name_at s p) ≡ so_many in_name s p
  length-name_at = ap length name_front ∙ length-prefix_len in_name (drop p s)

  -- they end where no byte of a name stands
  pub name_ends : Run s p (p + length (name_at s p))
  name_ends = rw length-name_at (record {
    forward = omega arith;
    goes_on = front_passes in_name s p;
    ends = go (dec_lt (p + so_many in_name s p) (length s));
  })
    where
      go : Dec (p + so_many in_name s p < length s) → in_name (byte_at s (p + so_many in_name s p)) ≡ false
      go (yes h) = front_stops in_name s p h
      go (no n) = ap in_name (get_or-eq_default s 0 (omega arith))

  -- signs end where none stands
  pub signs_end : Skips s p (p + so_many is_sign s p)
  signs_end = record {
    forward = omega arith;
    inside = front_inside is_sign s p;
    signs = front_passes is_sign s p;
    stops = front_stops is_sign s p;
  }

  -- a line goes on to its end
  pub line_ends : Ends s p (p + so_many goes_on s p)
  line_ends = record {
    forward = omega arith;
    inside = front_inside goes_on s p;
    goes_on = λ i l h e. true≢false (sym (front_passes goes_on s p i l h) ∙ ap goes_on e);
    stops = λ h. eqb-true _ line_end (not-false _ (front_stops goes_on s p h));
  }

-- names are compared as the library compares slices
pub pointwise-eqb : (xs ys : List ℕ) → pointwise eqb xs ys ≡ same_name xs ys
unfolding same_name
pointwise-eqb [] [] = refl
pointwise-eqb [] (y ∷ ys) = refl
pointwise-eqb (x ∷ xs) [] = refl
pointwise-eqb (x ∷ xs) (y ∷ ys) = rw (pointwise-eqb xs ys)
