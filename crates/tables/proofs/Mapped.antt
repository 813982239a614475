-- What an array's `map` gives where every call leaves the closure as it was and answers by a function. Assumes nothing.
use mathlib.Core.Path.{◌≡◌, sym, subst, ◌∙◌}
use mathlib.Core.List.{List, map}
use Prim.Native.Nat.{ℕ, zero, suc, ◌+◌, ◌≤◌, ◌<◌}
use native.Mathlib.Decide.{ℕ_discrete}
use native.Mathlib.Omega.{arith}
use lib.ListN.{length, get_or, length-map}
use denote.Param.Members.{Mut}
use Rattle.std.specs.Array.{MapsFrom, IsMapOf}
use Rattle.std.specs.Fn.{Called}
use Rattle.std.proofs.lemmas.List.{get_or-map, same_lists}

module _ {F A B : Type 0} (g : Mut F (A × Unit {0}) B) (f : F) (h : A → B)
    (calls : (x : A) (y : B) (q : F) → Called g f (x, tt) y q → (q ≡ f) × (y ≡ h x)) where
  mapped_at : (xs : List A) (ys : List B) (i n k : ℕ) (d : A) (e : B) → MapsFrom g f xs ys i n → i ≤ k → k < i + n
      → get_or ys k e ≡ h (get_or xs k d)
  mapped_at xs ys i zero k d e m l u = absurd (omega arith)
  mapped_at xs ys i (suc n) k d e (q, x, y, from, to, call, rest) l u =
      let next = subst (λ (p : F). MapsFrom g p xs ys (i + 1) n) (calls x y q call).0 rest in
      go (λ past. mapped_at xs ys (i + 1) n k d e next past (omega arith)) (ℕ_discrete k i)
    where
      go : (i + 1 ≤ k → get_or ys k e ≡ h (get_or xs k d)) → Dec (k ≡ i) → get_or ys k e ≡ h (get_or xs k d)
      go later (yes here) = rw (here, to.1 e, from.1 d) (calls x y q call).1
      go later (no past) = later (omega (arith, past))

  pub array_mapped : (d : A) (xs : List A) (ys : List B) (n : ℕ) → length xs ≡ n → IsMapOf g f xs ys n → ys ≡ map h xs
  array_mapped d xs ys n long m =
      same_lists ys (map h xs) (m.long ∙ sym long ∙ sym (length-map xs h)) λ k e l.
      let within : k < length xs = omega (arith, m.long) in
      mapped_at xs ys 0 n k d e m.each (omega arith) (omega (arith, m.long)) ∙ sym (get_or-map h xs k d e within)
